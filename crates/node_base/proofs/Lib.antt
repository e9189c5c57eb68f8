pub mod GroupWalks
pub mod Ranges
pub mod SetupTests

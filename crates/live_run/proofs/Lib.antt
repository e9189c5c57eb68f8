pub mod Begun
pub mod Counts
pub mod Lived

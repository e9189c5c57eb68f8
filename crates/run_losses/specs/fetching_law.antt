pub mod Fetchings
pub mod Present

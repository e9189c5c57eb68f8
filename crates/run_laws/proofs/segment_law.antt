pub mod Flown
pub mod Lines

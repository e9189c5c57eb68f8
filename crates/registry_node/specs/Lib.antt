pub mod Clocks
pub mod Events

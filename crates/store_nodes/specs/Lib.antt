pub mod Clocks
pub mod Rebuilds
pub mod ServerEvents

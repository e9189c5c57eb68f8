pub mod Clocks
pub mod Events
pub mod Phases

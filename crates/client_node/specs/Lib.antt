pub mod Clocks
pub mod Crash
pub mod Parts
pub mod Phases
pub mod Room
pub mod Serving
pub mod Starting

pub mod Lines
pub mod Loops
pub mod Newest
pub mod Picked
pub mod Starts
pub mod Targets

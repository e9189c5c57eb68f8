pub mod Answered
pub mod Claims
pub mod Loops
pub mod Named
pub mod Setups
pub mod Threads
pub mod Ways

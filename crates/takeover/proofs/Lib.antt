pub mod Chains
pub mod Ending
pub mod Loops
pub mod Readings
pub mod Standing
pub mod Starting

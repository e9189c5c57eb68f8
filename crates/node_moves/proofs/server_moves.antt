pub mod Events
pub mod Keeping
pub mod Moves

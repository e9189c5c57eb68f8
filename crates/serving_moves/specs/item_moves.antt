pub mod Moves
pub mod Events

pub mod Moves
pub mod Slots

pub mod Board
pub mod BoardState
pub mod Checkpoints
pub mod Laws
pub mod Slots

pub mod Scene
pub mod Start
pub mod Moves
pub mod Layers

mod Acts
mod Bytes
pub mod Fronts
mod Journals
mod Legality
mod Lines
mod Others
mod Parts
mod Runs
mod Shapes

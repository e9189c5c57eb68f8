pub mod Checkpoints
pub mod Serving

pub mod Blocks
pub mod Opens
pub mod Running

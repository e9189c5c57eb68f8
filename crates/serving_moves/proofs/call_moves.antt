pub mod Keeping
pub mod Reading
pub mod Following
pub mod Arriving
pub mod Blocks

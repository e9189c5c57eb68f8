pub mod Rows
pub mod Sayings
pub mod Worlds
pub mod Deltas
pub mod Covered
pub mod Gathers
pub mod News
pub mod Told

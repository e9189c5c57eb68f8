pub mod Events
pub mod Rebuilding

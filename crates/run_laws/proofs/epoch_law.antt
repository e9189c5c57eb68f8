pub mod Nodes
pub mod Slots
pub mod Managers
pub mod Horizons
pub mod Least
pub mod Polls

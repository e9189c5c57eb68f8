pub mod GroupMapState
pub mod Groups
pub mod Layout
pub mod Losses
pub mod Sizes
pub mod WellFormed

pub mod Beliefs
pub mod Index
pub mod Recalls

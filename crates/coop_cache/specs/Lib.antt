pub mod CacheState
pub mod Leaving
pub mod Transition
pub mod Use

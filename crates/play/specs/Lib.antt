pub mod Lawful
pub mod Manner
pub mod Plays

pub mod Begun
pub mod Lawful
pub mod Played
pub mod Plays

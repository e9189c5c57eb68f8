pub mod Tokens
pub mod Moves

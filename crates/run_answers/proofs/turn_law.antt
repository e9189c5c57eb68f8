pub mod Beginning
pub mod Fallen
mod Stood
mod InTurn

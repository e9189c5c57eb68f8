pub mod Below
pub mod Emptying
pub mod Histories
pub mod Loops
pub mod Turns

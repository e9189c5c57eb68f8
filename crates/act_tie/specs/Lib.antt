pub mod Number
pub mod BlockActs
pub mod Shown

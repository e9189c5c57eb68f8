mod Each
pub mod Onward
mod ShownChanges
mod Versions

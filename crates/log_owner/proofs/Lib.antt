pub mod Behaving
pub mod Keeping
pub mod Promising
pub mod Starting

pub mod Given
pub mod Gone
pub mod Xor

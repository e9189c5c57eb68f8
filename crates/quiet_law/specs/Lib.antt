pub mod Drained
pub mod Lines
pub mod Laws

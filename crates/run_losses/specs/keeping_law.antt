pub mod Grants
pub mod Keeping

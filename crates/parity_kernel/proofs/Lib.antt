pub mod Bytes
pub mod Chunks
pub mod Doubling
pub mod FieldLaws
pub mod Halves
pub mod Powers

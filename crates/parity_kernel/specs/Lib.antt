pub mod Bytewise
pub mod Field
pub mod Halves

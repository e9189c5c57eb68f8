pub mod FiledUpto
pub mod Reaching
pub mod Telling

pub mod Injection
pub mod Falling
pub mod Acting
pub mod Legality
pub mod Onward

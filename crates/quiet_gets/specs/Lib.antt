pub mod Forwards
pub mod Laws
pub mod Passing

pub mod Owner
pub mod Texts
pub mod Puts
pub mod ClientEvents

pub mod Behaves
pub mod Keeps
pub mod Opened
pub mod Opening
pub mod Promised
pub mod Sealing
pub mod Sending

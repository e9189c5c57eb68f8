pub mod Mounted
pub mod Ports
pub mod Replies
pub mod Turns

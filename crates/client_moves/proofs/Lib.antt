pub mod Tokens
pub mod Uncalled
pub mod Following
pub mod Calls
pub mod Packets
pub mod Events

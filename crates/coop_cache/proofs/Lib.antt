pub mod Keys
pub mod LastUses
pub mod Leavings
pub mod Orders

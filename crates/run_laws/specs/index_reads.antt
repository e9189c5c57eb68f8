pub mod Rows
pub mod Ties
pub mod Places
pub mod Clients
pub mod Managers
pub mod IndexLaws

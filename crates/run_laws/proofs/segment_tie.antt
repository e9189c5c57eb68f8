pub mod Items
pub mod Logs
pub mod Openings
pub mod Clients
pub mod Cleaners
pub mod Managers
pub mod Contents
pub mod Running

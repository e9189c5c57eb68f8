pub mod Telling
mod Items
mod Events
mod Plans
pub mod Clients
pub mod Cleaners
pub mod Others
mod Begins
pub mod Runs

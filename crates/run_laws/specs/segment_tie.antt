pub mod Segments
pub mod Settings
pub mod Clients
pub mod Cleaners
pub mod Managers
pub mod Runs
pub mod ItemLaws

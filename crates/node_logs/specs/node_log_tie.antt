pub mod Sight
pub mod ServerEvents
pub mod RegistryEvents
pub mod CleanerEvents
pub mod CleanerStores

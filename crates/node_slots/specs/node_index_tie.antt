pub mod Sight
pub mod Pages
pub mod ManagerEvents
pub mod RegistryEvents
pub mod OwnerEvents

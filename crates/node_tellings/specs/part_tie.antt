pub mod Names
pub mod ManagerNames
pub mod RegistryNames

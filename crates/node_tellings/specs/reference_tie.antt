pub mod References
pub mod Managers
pub mod Registries
pub mod Owners

pub mod Told
pub mod ClientTells
pub mod ManagerTells
pub mod CleanerTells
pub mod OtherTells

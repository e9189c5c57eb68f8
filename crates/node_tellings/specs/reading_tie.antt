pub mod Came
pub mod Arrivals
pub mod ClientReads
pub mod TakeoverReads
pub mod ManagerReads
pub mod CleanerReads
pub mod CleanerMeets

pub mod Fitting
pub mod Owner
pub mod OwnerEvents

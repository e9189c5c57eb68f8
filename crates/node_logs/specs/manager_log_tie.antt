pub mod Fitting
pub mod Owner
pub mod OwnerEvents
pub mod Told
pub mod Servers
pub mod Listing

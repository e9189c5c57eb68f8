pub mod Dues
pub mod Lists
pub mod Places
pub mod Ranges
pub mod Standing
pub mod Starting

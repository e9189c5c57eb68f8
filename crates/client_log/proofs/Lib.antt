pub mod Attempts
pub mod Keeping
pub mod LastPuts
pub mod Lines
pub mod Looks
pub mod Settlings

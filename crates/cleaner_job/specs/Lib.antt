pub mod Hands
pub mod Jobs
pub mod Lasting
pub mod Starting

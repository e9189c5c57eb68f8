mod ShelfSteps
pub mod Moments
pub mod Deleting
pub mod Answered
pub mod Twice
pub mod Readings
pub mod Filed
pub mod Servers
mod Laws

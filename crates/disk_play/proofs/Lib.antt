pub mod Begun
pub mod Closing
pub mod Happening
pub mod Lawful
pub mod Making
pub mod Passing
pub mod Places
pub mod Running
pub mod Seating
pub mod Starting
pub mod Stopping
pub mod Turning
mod WithoutStops

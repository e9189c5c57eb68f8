pub mod Later
pub mod Losses
pub mod Restarts
pub mod Rising

mod Starts
pub mod Frames
pub mod Sights
mod Fits
pub mod Bytes
mod Hands
mod Jobs
mod Serving
mod StandIn
mod Phases
pub mod Fitting

mod Acts
pub mod Courses
mod Falls
pub mod Histories
pub mod Moments
mod Openings
mod Reaching
mod Stretches
mod Syncs
mod Turns
mod Updates

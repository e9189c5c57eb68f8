mod Turns
mod Saying
mod Jobs
mod Moving
mod Runs
pub mod Deleting
mod Below

mod Answers
mod Chains
mod CheckLists
pub mod Checkpoints
mod Cleaning
pub mod Events
pub mod Feeds
pub mod Growth
mod Jobs
mod JobsStay
mod Laws
mod Lines
mod Registry
pub mod Rows
mod RunExists
pub mod Runs
pub mod Slots
pub mod Tables
pub mod Takeovers
pub mod Views

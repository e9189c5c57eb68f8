mod Wants
pub mod Following
mod Turning
mod Turns
mod Phases
mod Openings
mod Maps
mod Present
mod Asked
mod Truths
mod Counts
mod Fetchings

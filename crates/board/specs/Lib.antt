pub mod Ballots
pub mod Comparing
pub mod Heard
pub mod Lengths
pub mod Offering
pub mod State
pub mod Transition
pub mod Waiting

pub mod Slots
pub mod Managers
pub mod Polls
pub mod EpochLaws

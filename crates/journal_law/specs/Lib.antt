pub mod Journals
pub mod Runs
pub mod Told

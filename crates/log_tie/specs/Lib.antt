pub mod Setting
pub mod Seen
pub mod Inputs
pub mod Shelves
pub mod Rounds
pub mod Openings
pub mod Scans
pub mod Exist

pub mod Counting
pub mod Pairs
pub mod Shelves
pub mod Growing
mod Asking
pub mod Events
pub mod Interval
mod Torn
pub mod Kept
pub mod Answering
pub mod Readings
pub mod Inputs
pub mod Disks
pub mod Losing

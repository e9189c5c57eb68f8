pub mod Counts
pub mod Shifts

pub mod Course
pub mod ReadBack
pub mod Reports
pub mod Rows
pub mod Sources
pub mod TakeState
pub mod Transition

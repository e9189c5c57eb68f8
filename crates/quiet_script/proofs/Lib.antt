pub mod Answered
pub mod InLine
pub mod InTurn
pub mod Induction
pub mod QuietWorks
pub mod Ranges
pub mod Starting
pub mod Within

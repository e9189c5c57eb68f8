pub mod Counting
pub mod Shares
pub mod Together

pub mod Ledger
pub mod Items
mod Counting
mod Replies
pub mod Runs

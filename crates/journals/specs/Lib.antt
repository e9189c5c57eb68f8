pub mod Answers
pub mod Journals
pub mod Merged
pub mod Merging

pub mod Reads
pub mod Fetches
pub mod Copies
pub mod Answers
pub mod Hands
pub mod PlaceLaws

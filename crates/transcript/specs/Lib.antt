pub mod Counts
pub mod Falls
pub mod Numbers
pub mod Replies
pub mod Text

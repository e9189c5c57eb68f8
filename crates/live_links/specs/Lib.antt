pub mod Acts
pub mod Answered
pub mod Ending
pub mod Ends
pub mod Facts
pub mod Made
pub mod Parts

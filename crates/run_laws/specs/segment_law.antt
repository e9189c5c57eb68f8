pub mod Flown
pub mod WritingLaws

pub mod Forms
pub mod Lines
pub mod Outcome
pub mod Reading
pub mod Script
pub mod Spelling
pub mod Text
pub mod Words

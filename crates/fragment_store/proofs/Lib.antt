pub mod Again
pub mod Barred
pub mod Entries
pub mod Histories
pub mod Tables

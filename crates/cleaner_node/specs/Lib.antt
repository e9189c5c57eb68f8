pub mod CleanerClocks
pub mod CleanerEvents

pub mod Filing
pub mod Owners
pub mod ClientEvents
pub mod ServerEvents
pub mod CleanerMoves
pub mod CleanerEvents
pub mod Acting

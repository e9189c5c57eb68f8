pub mod Frames
pub mod Rising
pub mod ClientTokens
pub mod ClientReads
mod Feeds
mod ServingWalk
pub mod Openings
pub mod ClientPhases
pub mod Rows
pub mod Slots
mod LogParts
mod ManagerWalk
pub mod Managers
pub mod CleanerChecks
pub mod CleanerMoves
pub mod LogMoves
pub mod CleanerPhases
pub mod Servers
pub mod Registries
pub mod Told

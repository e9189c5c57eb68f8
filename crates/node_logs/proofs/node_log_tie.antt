pub mod Sights
pub mod Going
pub mod OwnerFalls
pub mod Lists
mod Rebuilding
pub mod RebuildEvents
mod Shelving
mod Servers
mod SentMaps
pub mod WholeMaps
pub mod Horizons
mod Boards
pub mod Others
mod Registries
pub mod OwnLogs
pub mod Cleaning
pub mod Emptied
mod CleanerJobs
mod CleanerOpening
mod Cleaners
pub mod Sight

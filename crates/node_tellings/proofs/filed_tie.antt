pub mod Frames
pub mod Rising
mod Scans
mod Feeds
mod OpeningRises
mod Openings
mod ServingWalk
mod ClientPhases
mod CleanerPhases
mod Servers
mod LogNumbers
mod Bounding
mod Slots
mod ManagerWalk
mod Managers
mod Weakening
mod Registries
mod Filing
mod EpochFloors

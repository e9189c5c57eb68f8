pub mod Drawn
mod OneOpening
pub mod ServerMisses
mod ScanAsks
mod OpeningTurns
mod Numbers
mod OpeningSays
mod ClientScans
mod CleanerScans
mod Coming
mod Truths
pub mod Counts
mod Owners
pub mod Senders
pub mod Course
pub mod Events
pub mod Turns
mod Always
mod Torn
mod ClientFetches
mod ClientNumbers
mod OpeningNumbers
mod ClientDraws
mod Drawing
pub mod ClientCounts
mod CleanerDraws
mod CleanerCounts

pub mod Puts
mod Starts
pub mod Frames
pub mod Boots
pub mod Logs
pub mod Questions
mod ServingTokens
mod ServingLog
mod Fitting
mod ServingCalls
mod ServingPackets
mod OpeningTurns
pub mod Straight
pub mod OpeningLog
mod ScanSays
mod ScanSteps
pub mod OpeningEvents
mod ClientPhases
mod ClientTakes
pub mod Staying
pub mod Written
pub mod Owed
pub mod Texts

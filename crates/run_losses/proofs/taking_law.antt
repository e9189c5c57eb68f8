mod TakeReadings
pub mod TakeTurns
mod SlotSays
pub mod SlotTurns
pub mod SlotReads
mod SlotSteps
mod Quiet
mod QuietServing
mod TableTurns
pub mod ServingTurns
pub mod ManagerTurns
pub mod ManagerCounts
mod Truths
pub mod Always
pub mod Reading
pub mod Losing

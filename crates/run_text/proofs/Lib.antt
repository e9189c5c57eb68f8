mod Acts
mod Standing
mod Tables
mod Events
mod Moments
mod Serving
mod CallItems
mod Driven
mod CallEvents
mod CallMoments
mod CallStates
mod CallFinding
mod CallRuns
mod CallLines
mod Shown
mod Texts
mod AloneEvents
mod AloneLines
mod AloneRuns
mod OneClient
pub mod Whole
pub mod CallWhole

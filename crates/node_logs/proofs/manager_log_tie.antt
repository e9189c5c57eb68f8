mod Written
pub mod Rows
mod Slots
mod Taking
mod SlotPhases
mod Tables
mod Frames
mod Logs
mod Checkpointing
mod Serving
mod Renewed
mod Phases
mod Starts
mod Told
mod Servers
mod Listing

pub mod Among
mod Logs
mod Slots
mod Clients
mod Cleaners
mod Managers
mod Runs

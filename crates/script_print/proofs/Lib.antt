pub mod Asks
pub mod Bytes
pub mod Drawing
pub mod Extracts
pub mod Goings
pub mod ItemLines
pub mod LineReads
pub mod Loops
pub mod Printings
mod Runs
pub mod SetupLines
pub mod Spelled

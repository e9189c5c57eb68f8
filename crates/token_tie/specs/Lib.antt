pub mod Epochs
pub mod Inputs
pub mod Managed
pub mod Seen
pub mod SlotInputs
pub mod Taken

pub mod History
pub mod LogState
pub mod Looks
pub mod Transition

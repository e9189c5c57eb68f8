pub mod SlotState
pub mod Recalls
pub mod Transition
pub mod Laws

pub mod Plan
pub mod WriterState
pub mod Transition
pub mod Laws

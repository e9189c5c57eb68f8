pub mod Held
pub mod Laws
pub mod Marks
pub mod Readings
pub mod Repetitions
pub mod Settling
pub mod State
pub mod Transition

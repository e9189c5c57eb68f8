pub mod Effects
pub mod Falls
pub mod History
pub mod Legal
pub mod Shown

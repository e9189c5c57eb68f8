pub mod Maps
pub mod Turns
pub mod Fronts

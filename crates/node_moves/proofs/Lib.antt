pub mod LogWalk
pub mod client_walk
pub mod manager_walk
pub mod OpeningSays
pub mod OpeningWalk
pub mod OpeningMaps
pub mod Effects
pub mod SlotPhases

pub mod cleaner_moves
pub mod registry_moves
pub mod server_moves
pub mod SlotPhases

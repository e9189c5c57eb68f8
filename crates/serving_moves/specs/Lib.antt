pub mod call_moves
pub mod item_moves

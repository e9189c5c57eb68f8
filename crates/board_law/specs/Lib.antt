pub mod board_tie
pub mod OneList
pub mod OneRun

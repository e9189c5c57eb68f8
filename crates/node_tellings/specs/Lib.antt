pub mod filed_tie
pub mod entry_tie
pub mod part_tie
pub mod reference_tie
pub mod reading_tie

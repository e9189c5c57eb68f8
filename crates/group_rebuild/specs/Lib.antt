pub mod Counted
pub mod Reads
pub mod RebuildState
pub mod Transition
pub mod Wanted

pub mod BoardRuns
pub mod BoardTurns
pub mod NextBoards
pub mod Projection
pub mod Replicas

pub mod Cluster
pub mod Dues
pub mod Events
pub mod Items
pub mod NextWorld
pub mod Runs
pub mod Schedule

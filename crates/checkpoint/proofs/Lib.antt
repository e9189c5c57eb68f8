pub mod Queue
pub mod Holding
pub mod PageRows
pub mod Covering

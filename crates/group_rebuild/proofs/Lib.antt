pub mod Counting
pub mod Filling
pub mod Loops
pub mod Queues
pub mod Telling

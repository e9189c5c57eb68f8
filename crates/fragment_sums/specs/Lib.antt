pub mod Recovered
pub mod Sums

pub mod AfterInputs
pub mod RangeRows
pub mod Ranges
pub mod Extension
pub mod Skipping

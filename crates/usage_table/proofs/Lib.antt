pub mod FromScratch
pub mod Table

pub mod Generator
pub mod Printing

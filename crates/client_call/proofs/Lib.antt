pub mod Fits
pub mod Fitted

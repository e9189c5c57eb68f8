pub mod Losses

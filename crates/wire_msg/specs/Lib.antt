pub mod NodeStep
pub mod Kinds

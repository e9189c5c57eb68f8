pub mod Horizons
pub mod Logs
pub mod Roles
pub mod Settings
pub mod Standing
pub mod Lines
pub mod Listing
pub mod NodeLaws

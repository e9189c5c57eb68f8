pub mod Owners
pub mod Managers
pub mod Fallen
pub mod Owes
pub mod Standing
pub mod Since
pub mod NodeLaws

pub mod Asking
pub mod NodeLaws
pub mod Standing
pub mod Growth
pub mod Owes
pub mod Laws

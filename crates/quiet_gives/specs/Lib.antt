pub mod Laws
pub mod Recalls

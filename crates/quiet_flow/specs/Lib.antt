pub mod Flow
pub mod Follow
pub mod Laws

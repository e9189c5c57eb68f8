pub mod Books
pub mod Owed
pub mod Net
pub mod Laws
pub mod Example

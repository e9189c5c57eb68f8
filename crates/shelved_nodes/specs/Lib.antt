pub mod AnyShelf
pub mod Asking
pub mod Shelves

pub mod Changed
pub mod Lists
pub mod Numbering
pub mod PlainTable
pub mod Sizes

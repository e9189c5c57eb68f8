pub mod bookkeeping
pub mod tokens
pub mod crash
pub mod logs
pub mod filing
pub mod content
pub mod cleaner

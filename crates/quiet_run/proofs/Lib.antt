pub mod Asking
pub mod Few
pub mod FromOwner
pub mod GetsFromDirty
pub mod Leading
pub mod OrderKept
pub mod Sharing

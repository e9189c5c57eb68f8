pub mod Linked
pub mod Pick
pub mod ScanState
pub mod Transition

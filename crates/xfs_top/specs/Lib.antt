pub mod Bounds
pub mod Headline
pub mod OneMachine
pub mod Replies

pub mod FeedState
pub mod History
pub mod RangeLaws
pub mod Transition

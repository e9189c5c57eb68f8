pub mod EmptyingEvents
pub mod Jobs

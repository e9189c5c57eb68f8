pub mod Course
pub mod Lost
pub mod Reading

pub mod Answers
pub mod Courses

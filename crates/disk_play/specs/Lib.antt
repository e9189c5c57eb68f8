pub mod Courses
pub mod Disks
pub mod Standing
pub mod Stopped
pub mod Unstopped

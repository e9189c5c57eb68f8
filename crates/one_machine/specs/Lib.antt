pub mod Machine
pub mod Trees
pub mod Worked

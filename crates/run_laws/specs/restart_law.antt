pub mod Sure
pub mod Below
pub mod Unlost
pub mod RunLines

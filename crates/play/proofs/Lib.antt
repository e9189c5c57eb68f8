pub mod EachBegun
pub mod Happening
pub mod Left
pub mod Manners
pub mod RunOf

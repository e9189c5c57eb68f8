pub mod BoardLines
pub mod FarBegun
pub mod Happening
pub mod Playing
pub mod RunOf

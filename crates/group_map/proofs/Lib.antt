pub mod AlwaysCurrent
pub mod FallingGenerations
pub mod KeptGroups
pub mod Numbers
pub mod Presence
pub mod Stripes
pub mod WellFormedMaps

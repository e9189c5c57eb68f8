pub mod Fate
pub mod Flights
pub mod Flown
pub mod Fragments
pub mod Items
pub mod Texts

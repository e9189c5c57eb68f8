pub mod FragmentLists
pub mod ItemTexts
pub mod Lengths
pub mod TextTests

pub mod FiledUpto
pub mod Told
pub mod NodeLaws

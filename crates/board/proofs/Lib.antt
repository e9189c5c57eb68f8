pub mod WholeCommands
pub mod BallotLaws
pub mod Applying
pub mod Offers

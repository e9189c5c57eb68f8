pub mod belief_law
pub mod boot_law
pub mod settled_law
pub mod stripe_law
pub mod sync_law

pub mod drop_law

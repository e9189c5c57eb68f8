-- The log of the cleaner, and what it has at the start of a run.
pub use Rattle.xfs_base.specs.Logs.{cleaner_log}
pub use Rattle.xfs_base.specs.Segments.{no_end}

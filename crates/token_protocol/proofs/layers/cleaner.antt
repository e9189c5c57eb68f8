-- Layer 7, the cleaner as a member: it only promises and reports, its log is empty, and it wrote nothing. It stands on versions; its first group stands
-- on nothing, and holds where logs lose what they held too.
pub mod Idle
pub mod Empty
pub mod Written
use Rattle.std.proofs.Common.{ℕ, true}
use Rattle.token_protocol.specs.World.{World, start}
use Rattle.token_protocol.specs.Step.{Step}
use Rattle.token_protocol.proofs.layers.content.{Content}

pub record Cleaner (w : World) : Type 0 where
  pub idle : Idle.Idle w
  pub empty : Empty.Empty w
  pub written : Written.Written w

-- Each group is kept by each step, given the groups and layers before it alone.
pub keeps : (w v : World) → Step true w v → Content w → Cleaner w → Cleaner v
keeps w v step content cleaner = record {
  idle = Idle.keeps true w v step cleaner.idle;
  empty = Empty.keeps w v step cleaner.idle cleaner.empty;
  written = Written.keeps w v step content.versions cleaner.idle cleaner.written;
}

pub begins : (n : ℕ) → Cleaner (start n)
begins n = record { idle = Idle.begins n; empty = Empty.begins n; written = Written.begins n }

-- Layer 2, tokens: what is held, given, reported and believed. It stands on bookkeeping alone: no fact here speaks of versions or logs, and it holds
-- in runs whose logs lose what they held.
pub mod Giving
pub mod Reporting
pub mod Believing
use Rattle.std.proofs.Common.{ℕ, Bool}
use Rattle.token_protocol.specs.World.{World, start}
use Rattle.token_protocol.specs.Step.{Step}
use Rattle.token_protocol.proofs.layers.bookkeeping.{Bookkeeping}

pub record Tokens (w : World) : Type 0 where
  pub giving : Giving.Giving w
  pub reporting : Reporting.Reporting w
  pub believing : Believing.Believing w

-- Each group is kept by each step, given the groups and layers before it alone.
pub keeps : (logs : Bool) (w v : World) → Step logs w v → Bookkeeping w → Tokens w → Tokens v
keeps logs w v step book tokens = record {
  giving = Giving.keeps logs w v step book tokens.giving;
  reporting = Reporting.keeps logs w v step book tokens.giving tokens.reporting;
  believing = Believing.keeps logs w v step book tokens.giving tokens.reporting tokens.believing;
}

pub begins : (n : ℕ) → Tokens (start n)
begins n = record {
  giving = Giving.begins n;
  reporting = Reporting.begins n;
  believing = Believing.begins n;
}

-- Layer 5, what is filed, the cleaner's copies too: the join, the index, and the places that entries name. It stands on logs.
pub mod Joined
pub mod Index
use Rattle.std.proofs.Common.{ℕ, true}
use Rattle.token_protocol.specs.World.{World, start}
use Rattle.token_protocol.specs.Step.{Step}
use Rattle.token_protocol.proofs.layers.bookkeeping.{Bookkeeping}
use Rattle.token_protocol.proofs.layers.tokens.{Tokens}
use Rattle.token_protocol.proofs.layers.crash.{Crash}
use Rattle.token_protocol.proofs.layers.logs.{Logs}

pub record Filing (w : World) : Type 0 where
  pub joined : Joined.Joined w
  pub index : Index.Index w

-- Each group is kept by each step, given the groups and layers before it alone.
pub keeps : (w v : World) → Step true w v → Bookkeeping w → Tokens w → Crash w → Logs w → Filing w → Filing v
keeps w v step book tokens crash logs filing = record {
  joined = Joined.keeps w v step book logs filing.joined;
  index = Index.keeps w v step book logs filing.joined filing.index;
}

pub begins : (n : ℕ) → Filing (start n)
begins n = record {
  joined = Joined.begins n;
  index = Index.begins n;
}

-- Layer 3, client crashes: a client that fell with the block dirty is still believed to own it. It stands on bookkeeping and tokens, and holds with
-- them in runs whose logs lose what they held.
pub mod Fallen
use Rattle.std.proofs.Common.{ℕ, Bool}
use Rattle.token_protocol.specs.World.{World, start}
use Rattle.token_protocol.specs.Step.{Step}
use Rattle.token_protocol.proofs.layers.bookkeeping.{Bookkeeping}
use Rattle.token_protocol.proofs.layers.tokens.{Tokens}

pub record Crash (w : World) : Type 0 where
  pub fallen : Fallen.Fallen w

-- Each group is kept by each step, given the groups and layers before it alone.
pub keeps : (logs : Bool) (w v : World) → Step logs w v → Bookkeeping w → Tokens w → Crash w → Crash v
keeps logs w v step book tokens crash = record {
  fallen = Fallen.keeps logs w v step book tokens crash.fallen;
}

pub begins : (n : ℕ) → Crash (start n)
begins n = record {
  fallen = Fallen.begins n;
}

-- Layer 6, content: versions, writers, values. It stands on all the others.
pub mod Versions
pub mod Writers
pub mod Values
use Rattle.std.proofs.Common.{ℕ, true}
use Rattle.token_protocol.specs.World.{World, start}
use Rattle.token_protocol.specs.Step.{Step}
use Rattle.token_protocol.proofs.layers.bookkeeping.{Bookkeeping}
use Rattle.token_protocol.proofs.layers.tokens.{Tokens}
use Rattle.token_protocol.proofs.layers.crash.{Crash}
use Rattle.token_protocol.proofs.layers.logs.{Logs}
use Rattle.token_protocol.proofs.layers.filing.{Filing}

pub record Content (w : World) : Type 0 where
  pub versions : Versions.Versions w
  pub writers : Writers.Writers w
  pub values : Values.Values w

-- Each group is kept by each step, given the groups and layers before it alone.
pub keeps : (w v : World) → Step true w v → Bookkeeping w → Tokens w → Crash w → Logs w → Filing w → Content w → Content v
keeps w v step book tokens crash logs filing content = record {
  versions = Versions.keeps w v step book tokens crash logs filing content.versions;
  writers = Writers.keeps w v step book tokens crash content.versions content.writers;
  values = Values.keeps w v step book tokens crash logs filing content.versions content.values;
}

pub begins : (n : ℕ) → Content (start n)
begins n = record {
  versions = Versions.begins n;
  writers = Writers.begins n;
  values = Values.begins n;
}

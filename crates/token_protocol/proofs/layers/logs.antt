-- Layer 4, logs of clients: what is sealed, in flight, filed, and not yet applied. It stands on the layers before it.
pub mod Rows
pub mod Flight
pub mod Behind
use Rattle.std.proofs.Common.{ℕ, true}
use Rattle.token_protocol.specs.World.{World, start}
use Rattle.token_protocol.specs.Step.{Step}
use Rattle.token_protocol.proofs.layers.bookkeeping.{Bookkeeping}
use Rattle.token_protocol.proofs.layers.tokens.{Tokens}
use Rattle.token_protocol.proofs.layers.crash.{Crash}

pub record Logs (w : World) : Type 0 where
  pub rows : Rows.Rows w
  pub flight : Flight.Flight w
  pub behind : Behind.Behind w

-- Each group is kept by each step, given the groups and layers before it alone.
pub keeps : (w v : World) → Step true w v → Bookkeeping w → Tokens w → Crash w → Logs w → Logs v
keeps w v step book tokens crash logs = record {
  rows = Rows.keeps w v step logs.rows;
  flight = Flight.keeps w v step book tokens crash logs.rows logs.flight;
  behind = Behind.keeps w v step book tokens crash logs.rows logs.flight logs.behind;
}

pub begins : (n : ℕ) → Logs (start n)
begins n = record {
  rows = Rows.begins n;
  flight = Flight.begins n;
  behind = Behind.begins n;
}

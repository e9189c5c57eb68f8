-- How what nodes send is seen in the small world of one log: a packet about the log has its thing among what was sent there. A body about another log, or
-- about another matter, asks nothing.
use Rattle.std.specs.Prelude.{◌≤◌, ℕ}
use Rattle.log_law.specs.Net.{Net, Packet}
use Rattle.log_protocol.specs.Tables.{In}
use Rattle.log_tie.specs.Setting.{Setting}
use Rattle.node_base.specs.declared.effects.Effect.{Effect}
use Rattle.node_base.specs.declared.effects.Effect.TheVariants.{Send}
use Rattle.xfs_base.specs.declared.node.NodeId.{NodeId}
use Rattle.node_logs.specs.node_log_tie.Sight.{Asker, BodySeen}

module _ (g : Setting) (owner : Asker) (n : Net) where
  -- what an event has a node do: each packet of it
  abbrev pub EffectSeen : NodeId → Effect → Type 0
  EffectSeen from (Send to said) = BodySeen g owner n from to said
  EffectSeen from _ = Unit {0}

-- The small world went on: what was sent stays sent, and no generation and no horizon fell.
pub record Later (n next : Net) : Type 0 where
  pub low : n.low ≤ next.low
  pub sent : (p : Packet) → In p n.sent → In p next.sent
  pub reached : (v : ℕ) → (n.shelves v).generation ≤ (next.shelves v).generation

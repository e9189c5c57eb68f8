-- What each kind of node may send, and how packets about tokens are seen in the small world of one slot.
use Rattle.std.specs.Prelude.{ℕ, List}
use Rattle.node_base.specs.declared.effects.Effect.{Effect}
use Rattle.node_base.specs.declared.effects.Effect.TheVariants.{Answer, Does, Lose, Send}
use Rattle.token_law.specs.Net.{Packet}
use Rattle.version_model.specs.declared.act.Act.{Act}
use Rattle.version_model.specs.declared.act.Act.TheVariants as act
use Rattle.node_slots.specs.node_tie.Sight.{ClientSends}

-- an act that is no fall of a client
abbrev pub IsNoFall : Act → Type 0
IsNoFall (act.Fell client flight falls) = ⊥
IsNoFall _ = Unit {0}

module _ (part : ℕ) (sent : List Packet) where
  abbrev pub ClientDoes : ℕ → ℕ → Effect → Type 0
  ClientDoes c life (Send to m) = ClientSends part sent c life to m
  ClientDoes c life (Answer item answer) = Unit {0}
  ClientDoes c life (Lose seg) = Unit {0}
  ClientDoes c life (Does a) = IsNoFall a

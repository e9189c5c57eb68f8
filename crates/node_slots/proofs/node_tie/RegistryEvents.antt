-- What an event makes of the registry, as one slot of the map sees it.
use Rattle.std.specs.Prelude.{ℕ}
use Rattle.node_base.specs.declared.effects.Effect.{Effect}
use Rattle.node_base.specs.declared.effects.Effect.TheVariants.{Answer, Does, Lose, Send}
use Rattle.registry.specs.BoardState.{BoardState}
use Rattle.token_law.specs.Owed.{IsNeutral}
use Rattle.wire_msg.specs.declared.packet.Do.{Do}
use Rattle.node_slots.specs.node_tie.RegistryEvents.{RegistrySends}

module _ (part : ℕ) (what : Do) (b : BoardState) where
  abbrev pub RegistryDoes : Effect → Type 0
  RegistryDoes (Send to said) = RegistrySends part what b to said
  RegistryDoes (Answer item answer) = Unit {0}
  RegistryDoes (Lose seg) = Unit {0}
  RegistryDoes (Does act) = IsNeutral act

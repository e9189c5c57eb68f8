-- What a reader holds came: each answer of its round was told by a server, and its groups are as maps that came say.
use Rattle.std.specs.Prelude.{ℕ}
use Rattle.stripe_code.specs.declared.round.Told.{Told as Answered}
use Rattle.node_tellings.specs.reading_tie.Came.{Came, Striped}

-- what came came later too
abbrev pub CameMore : Came → Came → Type 0
CameMore came later = (ask server : ℕ) (told : Answered) → came ask server told → later ask server told

abbrev pub StripedMore : Striped → Striped → Type 0
StripedMore striped more = (id members parity : ℕ) → striped id members parity → more id members parity

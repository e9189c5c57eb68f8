-- What it is for a client's tokens to take an input by steps of the abstract protocol.
use Rattle.std.specs.Prelude.{ℕ, Bool, List, []}
use Rattle.token_client.specs.declared.output.Out.{Out}
use Rattle.token_protocol.specs.World.{World}
use Rattle.token_tie.specs.Seen.{Local, Setting}
use Rattle.token_tie.specs.Taken.{Acts}

-- by steps that tell no act
abbrev pub Goes : Bool → Setting → ℕ → World → Local → List Out → Type 0
Goes logs g end w l outs = Acts logs g end w [] l outs

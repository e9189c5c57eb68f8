-- Calls on blocks: what a block reads as.
use Rattle.std.specs.Prelude.{ℕ, List, Option, None, unwrap_or}
use Rattle.token_client.specs.declared.held.Held.{Held}

-- what a block reads as
abbrev pub value_of : Held → Option (List ℕ)
value_of h = unwrap_or h.value None

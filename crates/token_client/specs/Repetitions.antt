-- How often the wants of a client were sent again.
use Rattle.std.specs.Prelude.{ℕ, Option, Some, None}
use Rattle.token_client.specs.declared.held.Wanted.{Wanted}

-- how often a want was sent again; 0 where there is none
abbrev pub repetition : Option Wanted → ℕ
repetition None = 0
repetition (Some w) = w.again

-- What the cleaner has promised, in the small world of token machines.
use Rattle.std.specs.Prelude.{ℕ}
use Rattle.token_law.specs.Net.{Net}

-- the same world, with this promised by the cleaner
abbrev pub with_promise : ℕ → Net → Net
with_promise k n = record n { promised = k }

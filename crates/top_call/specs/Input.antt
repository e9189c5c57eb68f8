-- What reading an input to its end gives.
use Rattle.std.specs.Prelude.{◌≡◌, ℕ, ◌+◌, List, take, Option, Some, None}
use Rattle.xfs_base.specs.Limits.{max_bytes}

-- the most that is read: one byte more than a script may have
abbrev pub limit : ℕ
limit = max_bytes + 1

-- the input, read to its end or to the limit, where the source tells it
abbrev pub ReadWhole : Option (List ℕ) → List ℕ → Type 0
ReadWhole None text = Unit {0}
ReadWhole (Some all) text = text ≡ take limit all

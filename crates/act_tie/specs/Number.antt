-- The number of a value, by which the abstract protocols speak of it: one number for each value.
use Rattle.std.specs.Prelude.{ℕ, zero, suc, ◌+◌, List, [], ◌∷◌, Some, None}
use Rattle.version_model.specs.History.{Content}

-- Two numbers as one above 0: the odd number 2 m + 1, doubled n times.
unfoldable pub paired : ℕ → ℕ → ℕ
paired zero m = suc (m + m)
paired (suc n) m = paired n m + paired n m

-- A list of numbers as one number.
abbrev pub code : List ℕ → ℕ
code [] = 0
code (n ∷ ns) = paired n (code ns)

-- What is absent is 0.
abbrev pub number : Content → ℕ
number None = 0
number (Some bytes) = suc (code bytes)

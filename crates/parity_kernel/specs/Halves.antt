-- The halves of a byte: its low four bits, and its high four.
use Rattle.std.specs.Prelude.{ℕ, ◌*◌, List, ◌++◌, map}
use Rattle.std.specs.List.{range_with_len}

abbrev sixteen : List ℕ
sixteen = range_with_len 0 16

-- each low half, twice
abbrev pub lows : List ℕ
lows = sixteen ++ sixteen

-- each high half, twice
abbrev pub highs : List ℕ
highs = map (λ n. 16 * n) sixteen ++ map (λ n. 16 * n) sixteen

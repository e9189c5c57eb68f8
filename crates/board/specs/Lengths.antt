-- What a leader knows of the others.
use Rattle.std.specs.Prelude.{ℕ, ◌==◌, if◌then◌else◌, max, Option, Some, None, unwrap_or}
use Rattle.board.specs.declared.lengths.Lengths.{Lengths}

-- the length that a board is known to have accepted
abbrev pub length_of : Lengths → ℕ → Option ℕ
length_of known number = if number == 1 then known.one else (if number == 2 then known.two else (if number == 3 then known.three else None))

-- the greater of a length and one that may be none
abbrev pub greater : Option ℕ → ℕ → Option ℕ
greater None length = Some length
greater (Some known) length = Some (max known length)

-- a board has accepted so much: it is noted as the greater
abbrev pub noted : Lengths → ℕ → ℕ → Lengths
noted known number length =
    if number == 1
    then record known { one = greater known.one length }
    else (if number == 2 then record known { two = greater known.two length } else (if number == 3 then record known { three = greater known.three length } else known))

-- the greatest of all, where none counts as 0
abbrev pub greatest : Lengths → ℕ
greatest known = max (unwrap_or known.one 0) (max (unwrap_or known.two 0) (unwrap_or known.three 0))

abbrev pub all_known : Option ℕ → Lengths
all_known length = record { one = length; two = length; three = length }

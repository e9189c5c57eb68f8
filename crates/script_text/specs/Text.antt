-- How a text is written: between quotes, with a count before it where it is repeated.
use Rattle.std.specs.Prelude.{◌≡◌, ◌⊎◌, ℕ, ◌+◌, ◌*◌, ◌<◌, ◌^◌, Bool, true, not, ◌&&◌, nat_le, nat_lt, ◌==◌, List, [], ◌∷◌, ◌++◌, if◌then◌else◌}
use Rattle.std.specs.List.{repeat}
use Rattle.std.specs.Fmt.{decimal}

-- a byte that stands for itself in a text: a printed one that is neither a quote nor a backslash
abbrev pub is_plain : ℕ → Bool
is_plain b = nat_le 0x20 b && nat_le b 0x7e && not (b == 0x22) && not (b == 0x5c)

-- the hexadecimal digit of a number below 16, in lower case
abbrev pub hex_digit : ℕ → ℕ
hex_digit n = if nat_lt n 10 then 48 + n else 87 + n

-- a byte is written by itself, a quote and a backslash behind a backslash, and any byte as `\xHH`
abbrev pub WritesByte : ℕ → List ℕ → Type 0
WritesByte b piece =
    ((is_plain b ≡ true) × (piece ≡ b ∷ []))
    ⊎ ((b ≡ 34) × (piece ≡ 92 ∷ 34 ∷ []))
    ⊎ ((b ≡ 92) × (piece ≡ 92 ∷ 92 ∷ []))
    ⊎ ((h : ℕ) × (l : ℕ) × (h < 16) × (l < 16) × (b ≡ 16 * h + l) × (piece ≡ 92 ∷ 120 ∷ hex_digit h ∷ hex_digit l ∷ []))

-- a text is written byte by byte
abbrev pub Writes : List ℕ → List ℕ → Type 0
Writes [] body = body ≡ []
Writes (b ∷ text) body = (piece : List ℕ) × (rest : List ℕ) × WritesByte b piece × Writes text rest × (body ≡ piece ++ rest)

-- these bytes between quotes
abbrev pub quoted : List ℕ → List ℕ
quoted body = 34 ∷ (body ++ 34 ∷ [])

-- the word spells the text: between quotes, or as a count, a star and the text that is repeated so often
abbrev pub SpellsText : List ℕ → List ℕ → Type 0
SpellsText word text =
    ((body : List ℕ) × Writes text body × (word ≡ quoted body))
    ⊎ ((count : ℕ) × (piece : List ℕ) × (body : List ℕ) × (count < 2 ^ 32) × Writes piece body × (word ≡ decimal count ++ 42 ∷ quoted body)
    × (text ≡ repeat count piece))

-- The words of a line.
use Rattle.std.specs.Prelude.{◌≢◌, ℕ, ◌==◌, Bool, true, false, List, [], ◌∷◌, ◌++◌, if◌then◌else◌}
use Rattle.std.specs.List.{AllByRecursion, onto_first}

-- no byte is this one
abbrev pub Lacks : ℕ → List ℕ → Type 0
Lacks mark bytes = AllByRecursion (λ b. b ≢ mark) bytes

-- the pieces between the bytes of one value, one more than there are of these
abbrev pub parted : ℕ → List ℕ → List (List ℕ)
parted mark [] = [] ∷ []
parted mark (b ∷ bytes) = if b == mark then [] ∷ parted mark bytes else onto_first b (parted mark bytes)

-- the pieces with such a byte between each two
abbrev pub joined : ℕ → List (List ℕ) → List ℕ
joined mark [] = []
joined mark (w ∷ []) = w
joined mark (w ∷ v ∷ ws) = w ++ mark ∷ joined mark (v ∷ ws)

-- the words of a line are parted by single spaces
abbrev pub words : List ℕ → List (List ℕ)
words line = parted 32 line

-- the first word, empty where there is none
abbrev pub first : List (List ℕ) → List ℕ
first [] = []
first (w ∷ ws) = w

-- the words behind it
abbrev pub behind : List (List ℕ) → List (List ℕ)
behind [] = []
behind (w ∷ ws) = ws

-- there is no word
abbrev pub is_end : List (List ℕ) → Bool
is_end [] = true
is_end (w ∷ ws) = false

-- the words of a line of which these are left: the empty line has one empty word
abbrev pub or_empty : List (List ℕ) → List (List ℕ)
or_empty [] = [] ∷ []
or_empty (w ∷ ws) = w ∷ ws

-- The stripe of a text: its pieces, then its parity.
use Rattle.std.specs.Prelude.{ℕ, zero, suc, ◌+◌, ◌-◌, ◌/◌, ◌%◌, ◌≤◌, List, [], ◌∷◌, ◌++◌, length, take, drop, ◌==◌, if◌then◌else◌}
pub use Rattle.fragment_sums.specs.Sums.{IsBytes, zeros, plain, weighted, sum_onto, parities, with_parity}

-- over how many members a text may be cut, and with how many parity fragments
pub record IsCut (n parity : ℕ) : Type 0 where
  pub some : 1 ≤ parity
  pub few : parity ≤ 2
  pub least : parity + 2 ≤ n
  pub limit : n ≤ 8

-- how long each fragment is: the length of the text divided by the number of pieces, rounded up
abbrev pub part_len : ℕ → ℕ → ℕ
part_len len count = len / count + (if len % count == 0 then 0 else 1)

-- bytes, filled up with zeros
abbrev pub piece_of : ℕ → List ℕ → List ℕ
piece_of part text = text ++ zeros (part - length text)

-- the text in so many pieces of so many bytes, 0 past its end
abbrev pub cut_pieces : ℕ → ℕ → List ℕ → List (List ℕ)
cut_pieces zero part text = []
cut_pieces (suc count) part text = piece_of part (take part text) ∷ cut_pieces count part (drop part text)

-- the stripe of a text over n members
unfoldable pub stripe_of : List ℕ → ℕ → ℕ → List (List ℕ)
stripe_of text n parity =
    let part = part_len (length text) (n - parity) in
    with_parity parity part (cut_pieces (n - parity) part text)

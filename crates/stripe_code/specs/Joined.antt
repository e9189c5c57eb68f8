-- The text of a stripe of which some fragments are missing.
use Rattle.std.specs.Prelude.{ℕ, ◌-◌, ◌==◌, if◌then◌else◌, List, [], ◌∷◌, length, take, Option, Some, None}
use Rattle.std.specs.List.{concat}
use Rattle.stripe_code.specs.declared.joining.JoinError.{JoinError}
use Rattle.stripe_code.specs.declared.joining.JoinError.TheVariants.{TwoGone, ThreeGone}
pub use Rattle.fragment_sums.specs.Recovered.{
  HasLengths,
  AreOf,
  AreRising,
  missing_from,
  part_at,
  rest_onto,
  one_gone,
  lower_of,
  both_of,
  two_gone,
  recovered_at,
  recovered,
  filled,
}

-- what is said where more are missing than the parity makes good: the first of them
abbrev pub too_many : ℕ → List ℕ → Option JoinError
too_many parity [] = None
too_many parity (a ∷ []) = None
too_many parity (a ∷ b ∷ []) = if parity == 1 then Some (TwoGone a b) else None
too_many parity (a ∷ b ∷ c ∷ rest) = if parity == 1 then Some (TwoGone a b) else Some (ThreeGone a b c)

-- the text of this length whose stripe has these fragments
unfoldable pub joined : List (Option (List ℕ)) → ℕ → ℕ → List ℕ
joined parts parity len =
    let count = length parts - parity in
    take len (concat (filled (take count parts) (recovered parts count)))

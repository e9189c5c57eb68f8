-- How the rounds of reading a segment are seen: cut as its group is, and of fragments of the booked one.
use Rattle.std.specs.Prelude.{◌≡◌, ℕ, List, [], ◌∷◌, length}
use Rattle.xfs_base.specs.declared.segment.End.{End}
use Rattle.segment_format.specs.declared.segment.Segment.{Segment}
use Rattle.segment_format.specs.Ranges.{Fits}
use Rattle.segment_format.specs.Text.{text_of, IsText}
use Rattle.stripe_code.specs.declared.round.Answer.{Answer}
use Rattle.stripe_code.specs.declared.round.Told.{Told}
use Rattle.stripe_code.specs.declared.round.Told.TheVariants.{Held, Missing}
use Rattle.stripe_code.specs.Round.{RoundSoFar, IsRound}
use Rattle.stripe_code.specs.Stripe.{IsBytes}
use Rattle.log_scan.specs.Transition.{name_at, end_below}
use Rattle.log_tie.specs.Setting.{Setting}
use Rattle.log_tie.specs.Shelves.{IsPiece}

-- What is booked can be read back: each segment has a text, and names the group of the segment before it.
pub record IsSpelled (g : Setting) (book : ℕ → Segment) (booked : ℕ → ℕ) : Type 0 where
  pub fits : (x : ℕ) → booked x ≡ 1 → Fits (book x)
  pub text : (x : ℕ) → booked x ≡ 1 → IsText (text_of (book x)) (book x)
  pub bytes : (x : ℕ) → booked x ≡ 1 → IsBytes (text_of (book x))
  pub grouped : (x y : ℕ) → booked x ≡ 1 → booked y ≡ 1 → (book y).name ≡ name_at g.log (end_below (book x)) → (book y).group ≡ (book x).prior.group

-- the booked segment that an end names is over the group that it names
abbrev pub IsGrouped : Setting → (ℕ → Segment) → (ℕ → ℕ) → End → Type 0
IsGrouped g book booked e = (y : ℕ) → booked y ≡ 1 → (book y).name ≡ name_at g.log e → (book y).group ≡ e.group

-- a fragment that was told is one of a booked segment, of the name that is looked for
abbrev pub ToldPiece : Setting → (ℕ → Segment) → (ℕ → ℕ) → End → Told → Type 0
ToldPiece g book booked e (Held f) = IsPiece g book booked f × (f.meta.name ≡ name_at g.log e)
ToldPiece g book booked e (Missing generation) = Unit {0}

abbrev pub AllTold : Setting → (ℕ → Segment) → (ℕ → ℕ) → End → List Answer → Type 0
AllTold g book booked e [] = Unit {0}
AllTold g book booked e (a ∷ rest) = ToldPiece g book booked e a.told × AllTold g book booked e rest

-- a round for the segment that an end names
pub record RoundShown (g : Setting) (book : ℕ → Segment) (booked : ℕ → ℕ) (e : End) (r : RoundSoFar) : Type 0 where
  pub is_round : IsRound r
  pub count : r.n ≡ length (g.stripe e.group).members
  pub parity : r.parity ≡ (g.stripe e.group).parity
  pub told : AllTold g book booked e r.answers

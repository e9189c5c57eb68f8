-- What a read of a place brings.
use Rattle.std.specs.Prelude.{◌≡◌, ℕ, List, length, Ok}
use Rattle.segment_format.specs.declared.segment.Segment.{Segment}
use Rattle.segment_format.specs.ReadingItems.{answer_of}
use Rattle.segment_format.specs.Text.{text_of}
use Rattle.stripe_code.specs.declared.round.RoundState.TheVariants.{Read}
use Rattle.stripe_code.specs.Round.{RoundSoFar, IsRound, state_of}
use Rattle.log_protocol.specs.Tables.{In}
use Rattle.log_tie.specs.Setting.{Setting}
use Rattle.log_tie.specs.Seen.{members_of}
use Rattle.log_law.specs.Net.{Net}
use Rattle.log_law.specs.Events.{AllCame}
use Rattle.log_law.specs.Laws.{Moment}

-- a round of reading this segment: cut as its group is, over fragments of its name that were sent
pub record IsReading (g : Setting) (n : Net) (s : Segment) (r : RoundSoFar) : Type 0 where
  pub is_round : IsRound r
  pub count : r.n ≡ length (members_of g s)
  pub parity : r.parity ≡ (g.stripe s.group).parity
  pub came : AllCame n s.name r.answers

-- it brings the text of the segment, which is read as the segment, with its items each at its index
pub record Brings (s : Segment) (bytes : List ℕ) : Type 0 where
  pub text : bytes ≡ text_of s
  pub read : answer_of bytes ≡ Ok s

-- A place names one content: whatever fragments of the name of a segment that was in flight are joined, they bring that segment.
abbrev pub APlaceNamesOneContent : Type 0
APlaceNamesOneContent =
    (g : Setting) (n : Net) → Moment g n → (s : Segment) → In s n.flown → (r : RoundSoFar) → IsReading g n s r → (text : List ℕ) → state_of r ≡ Read text
    → Brings s text

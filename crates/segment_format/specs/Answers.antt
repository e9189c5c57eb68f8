-- What may be said of an answer to bytes.
use Rattle.std.specs.Prelude.{◌≡◌, ◌<◌, ◌≤◌, ◌⊎◌, List, ℕ, ◌++◌, length, take, Result, Ok, Err}
use Rattle.segment_format.specs.declared.segment.Segment.{Segment}
use Rattle.segment_format.specs.declared.seg_error.SegError.{SegError}
use Rattle.segment_format.specs.declared.seg_error.SegError.TheVariants.{Short, BadMark, BadVersion, BadKind, BadLength, BadRef, Trailing, Memory}
use Rattle.segment_format.specs.Ranges.{Fits}
use Rattle.segment_format.specs.Reading.{Yields}
use Rattle.segment_format.specs.ReadingItems.{answer_of}
use Rattle.segment_format.specs.Text.{IsText}

-- where the bytes are the text of a segment, the answer is that segment, unless memory ran out
abbrev pub ReadsEachText : List ℕ → Result Segment SegError → Type 0
ReadsEachText bytes answer = (s : Segment) → Fits s → IsText bytes s → Yields (λ x. x) answer (Ok s)

-- the offset that a refusal names
abbrev pub place : SegError → ℕ
place (Short at) = at
place (BadMark at) = at
place (BadVersion at) = at
place (BadKind at) = at
place (BadLength at) = at
place (BadRef at) = at
place (Trailing at) = at
place Memory = 0

abbrev pub IsShort : SegError → Type 0
IsShort (Short at) = Unit {0}
IsShort (BadMark at) = ⊥
IsShort (BadVersion at) = ⊥
IsShort (BadKind at) = ⊥
IsShort (BadLength at) = ⊥
IsShort (BadRef at) = ⊥
IsShort (Trailing at) = ⊥
IsShort Memory = ⊥

-- nothing is wrong with these bytes but that they end
abbrev pub IsCutOff : List ℕ → Type 0
IsCutOff bytes = (at : ℕ) × (at ≤ length bytes) × (answer_of bytes ≡ Err (Short at))

-- The refusal stands at the first place at which no text can go on, or at a version that no Block needs: it lies
-- within the bytes; whatever comes after the bytes, it stays, unless they end too early; and each front of them
-- that ends before the place is cut off and no more.
pub record IsFirst (bytes : List ℕ) (e : SegError) : Type 0 where
  pub within : place e ≤ length bytes
  pub stays : IsShort e ⊎ ((more : List ℕ) → answer_of (bytes ++ more) ≡ Err e)
  pub before : (j : ℕ) → j < place e → IsCutOff (take j bytes)

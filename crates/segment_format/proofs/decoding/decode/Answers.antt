use Rattle.std.proofs.Common.{◌≡◌, ℕ, List, Result, Ok, Err, subst, arith, inl, inr}
use Rattle.std.specs.Prelude.{IfErr, IfOk, ◌⊎◌}
use Rattle.segment_format.specs.declared.segment.Segment.{Segment}
use Rattle.segment_format.specs.declared.seg_error.SegError.{SegError}
use Rattle.segment_format.specs.declared.seg_error.SegError.TheVariants.{Memory}
use Rattle.segment_format.specs.Answers.{IsFirst}
use Rattle.segment_format.specs.Ranges.{Fits}
use Rattle.segment_format.specs.Reading.{Yields}
use Rattle.segment_format.specs.ReadingItems.{answer_of}
use Rattle.segment_format.specs.Text.{IsText}
use Rattle.segment_format.proofs.Readers.{IsBytes}
use Rattle.segment_format.proofs.FirstPlace.{first_place}
use Rattle.segment_format.proofs.SegmentLaws.{answer_takes, answer_again}
use Rattle.segment_format.proofs.decoding.decode.Goals as goal

is_found : (bytes : List ℕ) (r : Result Segment SegError) → IsBytes bytes → Yields (λ s. s) r (answer_of bytes) → IfOk r (λ s. IsText bytes s × Fits s)
is_found bytes (Ok s) fits given = answer_takes bytes s fits given
is_found bytes (Err e) fits given = tt

pub returns-clause-found : goal.returns-clause-found
returns-clause-found c = is_found c.args.bytes.now c.answer.result (λ i. omega (arith, c.type_inv.bytes i)) c.answer.ensures

pub returns-clause-only : goal.returns-clause-only
returns-clause-only c =
    λ s fits text. subst (λ (a : Result Segment SegError). Yields (λ x. x) c.answer.result a) (answer_again c.args.bytes.now s fits text) c.answer.ensures

is_first : (bytes : List ℕ) (r : Result Segment SegError) → Yields (λ s. s) r (answer_of bytes) → IfErr r (λ e. (e ≡ Memory) ⊎ IsFirst bytes e)
is_first bytes (Ok s) given = tt
is_first bytes (Err e) (inl m) = inl m
is_first bytes (Err e) (inr h) = inr (first_place bytes e h)

pub returns-clause-first : goal.returns-clause-first
returns-clause-first c = is_first c.args.bytes.now c.answer.result c.answer.ensures

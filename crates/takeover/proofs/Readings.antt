-- A reading looks for one segment from its beginning to its end, and what it gives has that segment's name.
use Rattle.std.proofs.Common.{◌≡◌, ℕ, Option, Some, None, refl, sym}
use Rattle.group_map.specs.GroupMapState.{GroupMapState}
use Rattle.segment_format.specs.declared.segment.Segment.{Segment}
use Rattle.segment_format.specs.declared.seg_error.SegError.{SegError}
use Rattle.segment_format.specs.ReadingItems.{answer_of}
use Rattle.std.specs.Prelude.{Result, Ok, Err}
use Rattle.segment_reading.specs.Reading.{ReadingState, Step, reading_take, on_confirmed, counts, reading_judge, reading_reads, goes_on, segment_found, is_met_by}
use Rattle.segment_reading.specs.declared.reading.Next.{Next}
use Rattle.segment_reading.specs.declared.reading.Next.TheVariants.{Wait, Ask, Again, Read, Lost}
use Rattle.segment_reading.specs.declared.reading.Stage.{Stage}
use Rattle.segment_reading.specs.declared.reading.Stage.TheVariants.{Asking, Between, Doubted, Over}
use Rattle.segment_reading.specs.declared.target.Target.{Target}
use Rattle.xfs_base.proofs.Booleans.{by_test, and_first}
use Rattle.xfs_base.proofs.SegmentNames.{one_name}
use Rattle.xfs_base.specs.Segments.{same_name}
use Rattle.stripe_code.specs.Round.{round_take, state_of}
use Rattle.stripe_code.specs.declared.round.RoundState.{RoundState}
use Rattle.stripe_code.specs.declared.round.RoundState.TheVariants as round
use Rattle.stripe_code.specs.declared.round.Told.{Told}

-- ---- what is looked for stays

target-reading_reads : (r : ReadingState) (o : Option Segment) → (reading_reads r o).state.target ≡ r.target
target-reading_reads r (Some s) = refl
target-reading_reads r None = refl

target-reading_judge : (r : ReadingState) (groups : GroupMapState) (s : RoundState) → (reading_judge r groups s).state.target ≡ r.target
target-reading_judge r groups (round.Read bytes) = target-reading_reads r (segment_found r.target groups (answer_of bytes))
target-reading_judge r groups (round.Short pairs) = refl
target-reading_judge r groups round.Waiting = refl

pub target-reading_take : (r : ReadingState) (groups : GroupMapState) (ask server : ℕ) (told : Told) → (reading_take r groups ask server told).state.target ≡ r.target
unfolding reading_take
target-reading_take r groups ask server told =
    let now = round_take r.round server told in
    by_test (λ (s : Step). s.state.target ≡ r.target) (counts r ask server told) (reading_judge (record r { round = now }) groups (state_of now))
    (record { state = r; next = Wait })
    (λ t. target-reading_judge (record r { round = now }) groups (state_of now))
    (λ t. refl)

target-goes_on : (r : ReadingState) (ask : ℕ) (stage : Stage) → (goes_on r ask stage).state.target ≡ r.target
target-goes_on r ask Asking = refl
target-goes_on r ask Between = refl
target-goes_on r ask Doubted = refl
target-goes_on r ask Over = refl

pub target-on_confirmed : (r : ReadingState) (ask : ℕ) → (on_confirmed r ask).state.target ≡ r.target
unfolding on_confirmed
target-on_confirmed r ask = target-goes_on r ask r.stage

-- ---- what is read is what was looked for

-- a segment that is read has the name
abbrev pub IsNamed : Target → Next → Type 0
IsNamed target (Read s) = s.name ≡ target.seg.name
IsNamed target Wait = Unit {0}
IsNamed target Ask = Unit {0}
IsNamed target Again = Unit {0}
IsNamed target Lost = Unit {0}

named-found : (r : ReadingState) (target : Target) (groups : GroupMapState) (answer : Result Segment SegError)
    → IsNamed target (reading_reads r (segment_found target groups answer)).next
named-found r target groups (Ok s) =
    by_test (λ (o : Option Segment). IsNamed target (reading_reads r o).next) (is_met_by target groups s) (Some s) None
    (λ t. sym (one_name target.seg.name s.name (and_first (same_name target.seg.name s.name) _ t)))
    (λ t. tt)
named-found r target groups (Err e) = tt

named-reading_judge : (r : ReadingState) (groups : GroupMapState) (s : RoundState) → IsNamed r.target (reading_judge r groups s).next
named-reading_judge r groups (round.Read bytes) = named-found r r.target groups (answer_of bytes)
named-reading_judge r groups (round.Short pairs) = tt
named-reading_judge r groups round.Waiting = tt

pub named-reading_take : (r : ReadingState) (groups : GroupMapState) (ask server : ℕ) (told : Told) → IsNamed r.target (reading_take r groups ask server told).next
unfolding reading_take
named-reading_take r groups ask server told =
    let now = round_take r.round server told in
    by_test (λ (s : Step). IsNamed r.target s.next) (counts r ask server told) (reading_judge (record r { round = now }) groups (state_of now))
    (record { state = r; next = Wait })
    (λ t. named-reading_judge (record r { round = now }) groups (state_of now))
    (λ t. tt)

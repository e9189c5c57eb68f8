-- A reading keeps what it looks for, and what it reads has that name.
use Rattle.std.proofs.Common.{◌≡◌, ℕ, cond, ◌&&◌, Option, Some, None, refl, sym}
use Rattle.std.specs.Prelude.{Result, Ok, Err}
use Rattle.group_map.specs.GroupMapState.{GroupMapState}
use Rattle.segment_format.specs.declared.seg_error.SegError.{SegError}
use Rattle.segment_format.specs.declared.segment.Segment.{Segment}
use Rattle.segment_format.specs.ReadingItems.{answer_of}
use Rattle.segment_reading.specs.declared.reading.Next.{Next}
use Rattle.segment_reading.specs.declared.reading.Next.TheVariants.{Wait, Ask, Again, Read, Lost}
use Rattle.segment_reading.specs.declared.reading.Stage.{Stage}
use Rattle.segment_reading.specs.declared.reading.Stage.TheVariants.{Asking, Between, Doubted, Over}
use Rattle.segment_reading.specs.Reading.{ReadingState, Step, is_met_by, is_known, has_block, segment_found, counts, reading_reads, reading_judge, reading_take, goes_on, on_confirmed}
use Rattle.stripe_code.specs.declared.round.RoundState.{RoundState}
use Rattle.stripe_code.specs.declared.round.RoundState.TheVariants as round
use Rattle.stripe_code.specs.declared.round.Told.{Told}
use Rattle.xfs_base.specs.Segments.{same_name}
use Rattle.stripe_code.specs.Round.{round_take, state_of}
use Rattle.xfs_base.specs.declared.segment.SegName.{SegName}
use Rattle.xfs_base.proofs.Booleans.{by_test, and_first}
use Rattle.xfs_base.proofs.SegmentNames.{one_name}

-- a segment that is read has this name
abbrev pub ReadsName : SegName → Next → Type 0
ReadsName name Wait = Unit {0}
ReadsName name Ask = Unit {0}
ReadsName name Again = Unit {0}
ReadsName name (Read s) = s.name ≡ name
ReadsName name Lost = Unit {0}

pub record KeepsTarget (r : ReadingState) (step : Step) : Type 0 where
  pub same : step.state.target ≡ r.target
  pub name : ReadsName r.target.seg.name step.next

as_found : (r : ReadingState) (groups : GroupMapState) (s : Segment) → KeepsTarget r (reading_reads r (cond (is_met_by r.target groups s) (Some s) None))
as_found r groups s =
    by_test (λ (o : Option Segment). KeepsTarget r (reading_reads r o)) (is_met_by r.target groups s) (Some s) None
    (λ t. record {
      same = refl;
      name = sym (one_name r.target.seg.name s.name (and_first (same_name r.target.seg.name s.name) (is_known groups s.prior && has_block r.target.block s) t));
    })
    (λ t. record { same = refl; name = tt })

as_answered : (r : ReadingState) (groups : GroupMapState) (a : Result Segment SegError) → KeepsTarget r (reading_reads r (segment_found r.target groups a))
as_answered r groups (Ok s) = as_found r groups s
as_answered r groups (Err e) = record { same = refl; name = tt }

as_judged : (r : ReadingState) (groups : GroupMapState) (st : RoundState) → KeepsTarget r (reading_judge r groups st)
as_judged r groups (round.Read bytes) = as_answered r groups (answer_of bytes)
as_judged r groups (round.Short pairs) = record { same = refl; name = tt }
as_judged r groups round.Waiting = record { same = refl; name = tt }

pub answered_keeps : (r : ReadingState) (groups : GroupMapState) (ask server : ℕ) (told : Told) → KeepsTarget r (reading_take r groups ask server told)
unfolding reading_take
answered_keeps r groups ask server told =
    by_test (λ (step : Step). KeepsTarget r step) (counts r ask server told)
    (reading_judge (record r { round = round_take r.round server told }) groups (state_of (round_take r.round server told))) (record { state = r; next = Wait })
    (λ t. (let k = as_judged (record r { round = round_take r.round server told }) groups (state_of (round_take r.round server told)) in
    record { same = k.same; name = k.name }))
    (λ t. record { same = refl; name = tt })

confirmed_by : (r : ReadingState) (ask : ℕ) (stage : Stage) → KeepsTarget r (goes_on r ask stage)
confirmed_by r ask Asking = record { same = refl; name = tt }
confirmed_by r ask Between = record { same = refl; name = tt }
confirmed_by r ask Doubted = record { same = refl; name = tt }
confirmed_by r ask Over = record { same = refl; name = tt }

pub confirmed_keeps : (r : ReadingState) (ask : ℕ) → KeepsTarget r (on_confirmed r ask)
unfolding on_confirmed
confirmed_keeps r ask = confirmed_by r ask r.stage

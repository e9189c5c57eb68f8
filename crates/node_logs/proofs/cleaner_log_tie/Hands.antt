-- The segment that a job of the cleaner has in hand: whatever becomes of it, the fragments of its reading are bytes, and what is read back of them fits.
use Rattle.std.proofs.Common.{ℕ, Option, Some, None}
use Rattle.std.specs.Prelude.{IfSome}
use Rattle.xfs_base.proofs.Booleans.{by_test}
use Rattle.xfs_base.specs.declared.block.BlockId.{BlockId}
use Rattle.xfs_base.specs.declared.segment.SegRef.{SegRef}
use Rattle.group_map.specs.declared.group.Group.{Group}
use Rattle.group_map.specs.GroupMapState.{GroupMapState}
use Rattle.node_base.specs.declared.questions.Questions.{Questions}
use Rattle.segment_reading.specs.Reading.{ReadingState, reading_take, on_confirmed}
use Rattle.stripe_code.specs.declared.round.Told.{Told}
use Rattle.cleaner_job.specs.declared.hand.Hand.{Hand}
use Rattle.cleaner_job.specs.Hands.{Heard, Taken, is_in_hand, known_group, take_over, take_in_hand, hears_by, hand_hear, confirmed_by, hand_confirmed, checks_under}
use Rattle.cleaner_job.specs.Jobs.{hand_moved, dropped, read_over}
use Rattle.node_logs.specs.cleaner_log_tie.Fitting.{ToldFits, RoundFits, HandFits}
use Rattle.node_logs.proofs.cleaner_log_tie.Bytes.{NextFits, StepFits, answered_fits, confirmed_fits}

abbrev pub InHand : Option Hand → Type 0
InHand hand = IfSome hand HandFits

-- a segment is taken in hand, or is there already
over_fits : (q : Questions) (seg : SegRef) (group : Option Group) → InHand (take_over q seg group).hand
over_fits q seg None = tt
over_fits q seg (Some group) = tt

pub taken_fits : (groups : Option GroupMapState) (q : Questions) (hand : Option Hand) (seg : SegRef) → InHand hand
    → InHand (take_in_hand groups q hand seg).hand
unfolding take_in_hand
taken_fits groups q hand seg h =
    by_test (λ (t : Taken). InHand t.hand) (is_in_hand hand seg) (record { hand = hand; questions = q }) (take_over q seg (known_group groups seg.group))
    (λ t. h) (λ t. over_fits q seg (known_group groups seg.group))

pub checked_fits : (hand : Hand) (q : Questions) (block : BlockId) (ask : Option ℕ) → HandFits hand → HandFits (checks_under hand q block ask).hand
checked_fits hand q block None h = h
checked_fits hand q block (Some ask) h = h

pub dropped_fits : (hand : Option Hand) → InHand hand → InHand (dropped hand)
dropped_fits None h = tt
dropped_fits (Some hand) h = h

pub moved_fits : (hand : Option Hand) → InHand hand → InHand (hand_moved hand)
moved_fits None h = tt
moved_fits (Some hand) h = h

pub over_read_fits : (hand : Option Hand) → InHand (read_over hand)
over_read_fits None = tt
over_read_fits (Some hand) = tt

-- what is left of it after an answer fits, and so does the segment that is read then
pub record HeardFits (h : Heard Hand) : Type 0 where
  pub hand : HandFits h.state
  pub next : NextFits h.next

pub hears_fits : (hand : Hand) (groups : GroupMapState) (ask server : ℕ) (t : Told) → HandFits hand → ToldFits t
    → HeardFits (hand_hear hand groups ask server t)
unfolding hand_hear
hears_fits hand groups ask server t h told = by_reading hand.reading h
  where
    by_reading : (reading : Option ReadingState) → IfSome reading (λ (r : ReadingState). RoundFits r.round)
        → HeardFits (hears_by hand reading groups ask server t)
    by_reading None its = record { hand = h; next = tt }
    by_reading (Some r) its =
        (let s : StepFits (reading_take r groups ask server t) = answered_fits r groups ask server t its told in record { hand = s.round; next = s.next })

pub confirms_fits : (hand : Hand) (ask : ℕ) → HandFits hand → HeardFits (hand_confirmed hand ask)
unfolding hand_confirmed
confirms_fits hand ask h = by_reading hand.reading h
  where
    by_reading : (reading : Option ReadingState) → IfSome reading (λ (r : ReadingState). RoundFits r.round) → HeardFits (confirmed_by hand reading ask)
    by_reading None its = record { hand = h; next = tt }
    by_reading (Some r) its = (let s : StepFits (on_confirmed r ask) = confirmed_fits r ask its in record { hand = s.round; next = s.next })

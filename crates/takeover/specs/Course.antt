-- A takeover over any course of inputs, and what it hands out in the end.
use Rattle.std.specs.Prelude.{◌≡◌, ℕ, ◌≤◌, List, [], ◌∷◌, Option, Some, None, length, if◌then◌else◌}
use Rattle.group_map.specs.GroupMapState.{GroupMapState}
use Rattle.delta_index.specs.Index.{entry_of, merged_all}
use Rattle.delta_index.specs.Join.{join}
use Rattle.segment_format.specs.declared.segment.Segment.{Segment}
use Rattle.segment_reading.specs.Reading.{ReadingState, reading_take}
use Rattle.segment_reading.specs.declared.reading.Next.{Next}
use Rattle.segment_reading.specs.declared.reading.Next.TheVariants as next
use Rattle.stripe_code.specs.declared.round.Told.{Told}
use Rattle.stripe_code.specs.declared.round.Told.TheVariants.{Held}
use Rattle.stripe_code.specs.declared.round.Told.TheVariants as told
use Rattle.xfs_base.specs.declared.block.BlockId.{BlockId}
use Rattle.xfs_base.specs.declared.entry.Entry.{Entry}
use Rattle.xfs_base.specs.declared.news.SlotNews.{SlotNews}
use Rattle.xfs_base.specs.declared.token.Mode.{Mode}
use Rattle.xfs_base.specs.Limits.{u32_end, block_logs}
use Rattle.takeover.specs.declared.input.In.{In}
use Rattle.takeover.specs.declared.input.In.TheVariants as input
use Rattle.takeover.specs.declared.output.Out.{Out}
use Rattle.takeover.specs.declared.output.Out.TheVariants.{Poll, Fetch, Active, Lost}
use Rattle.takeover.specs.declared.source.Present.{Present}
use Rattle.takeover.specs.ReadBack.{Read, nothing_read, and_read, AreReadBack, told_by_all}
use Rattle.takeover.specs.Reports.{applied_of, beliefs_of}
use Rattle.takeover.specs.Sources.{sources_of}
use Rattle.takeover.specs.TakeState.{TakeState, take_start}
use Rattle.takeover.specs.Transition.{can_ask, awaited, transition}

-- ---- what is read

-- the segment that an answer completes, where it completes one
abbrev pub segment_of : Next → Option Segment
segment_of (next.Read s) = Some s
segment_of next.Wait = None
segment_of next.Ask = None
segment_of next.Again = None
segment_of next.Lost = None

abbrev pub and_of : Read → Present → Option Segment → Read
and_of r p None = r
and_of r p (Some s) = and_read r p.source s

abbrev pub read_in : TakeState → Read → Present → Option ReadingState → ℕ → ℕ → Told → Read
read_in s r p None ask server told = r
read_in s r p (Some reading) ask server told = and_of r p (segment_of (reading_take reading s.groups ask server told).next)

abbrev pub read_at : TakeState → Read → Option Present → ℕ → ℕ → Told → Read
read_at s r None ask server told = r
read_at s r (Some p) ask server told = read_in s r p p.reading ask server told

-- what is read once a server told this
abbrev pub read_by : TakeState → Read → ℕ → ℕ → Told → Read
read_by s r ask server told = if can_ask s then read_at s r s.present ask server told else r

abbrev pub read_after : TakeState → Read → In → Read
read_after s r (input.Report from held end) = r
read_after s r (input.Got ask server generation fragment) = read_by s r ask server (Held fragment)
read_after s r (input.Missing ask server generation) = read_by s r ask server (told.Missing generation)
read_after s r (input.Maps groups) = r
read_after s r input.Tick = r

-- ---- any course of inputs

-- a takeover, and what it has read
pub record Course : Type 0 where
  pub state : TakeState
  pub read : Read

abbrev pub after_input : Course → In → Course
after_input c i = record { state = (transition c.state i).state; read = read_after c.state c.read i }

abbrev pub after_inputs : Course → List In → Course
after_inputs c [] = c
after_inputs c (i ∷ rest) = after_inputs (after_input c i) rest

-- a takeover that took these inputs, in their order
abbrev pub course_of : SlotNews → GroupMapState → ℕ → List In → Course
course_of news groups clients inputs = after_inputs (record { state = take_start news groups clients; read = nothing_read }) inputs

-- ---- what is handed out

-- Each node that was polled has reported. Each part of the checkpoint was read, and each log from its reported end back to what
-- the checkpoint covers, and nothing else. Of each block the index holds the join of what these segments tell: the parts in their
-- order, then log by log, each from its lowest segment on. Each log is in the index up to its reported end, or as far as the
-- checkpoint covers it, where that is more.
pub record IsTakenOver (news : SlotNews) (c : Course) (epoch : ℕ) (index : List (BlockId × Entry)) (beliefs : List (BlockId × ℕ × Mode))
    (applied : List ℕ) : Type 0 where
  pub reported : awaited c.state ≡ []
  pub sources : AreReadBack (sources_of news c.state.reports) c.read.whole
  pub nothing_else : c.read.present ≡ []
  pub rows : index ≡ merged_all [] (told_by_all news.slot c.read.whole)
  pub joined : (block : BlockId) → entry_of index block ≡ join (told_by_all news.slot c.read.whole) block
  pub applied_to : applied ≡ applied_of news.horizon c.state.reports
  pub believed : beliefs ≡ beliefs_of c.state.reports
  pub of_epoch : epoch ≡ news.epoch

-- ---- the end

-- all have reported, and nothing is read at present
pub record IsOver (s : TakeState) : Type 0 where
  pub reported : awaited s ≡ []
  pub nothing_read : s.present ≡ None

-- ---- what a slot may start with

-- nine numbers, and no more rows than a slot's index may have pages
pub record MayStart (index : List (BlockId × Entry)) (applied : List ℕ) : Type 0 where
  pub nine : length applied ≡ block_logs
  pub few : length index ≤ u32_end

abbrev pub StartsSlot : Out → Type 0
StartsSlot (Poll to) = Unit {0}
StartsSlot (Fetch server name ask) = Unit {0}
StartsSlot (Active epoch index beliefs applied) = MayStart index applied
StartsSlot (Lost name) = Unit {0}

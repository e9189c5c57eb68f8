-- Reading one segment: rounds, the reader's own question between them and after the second, read, or lost. One definition an
-- input.
use Rattle.std.specs.Prelude.{ℕ, Bool, true, false, ◌==◌, ◌&&◌, ◌||◌, if◌then◌else◌, List, [], length, map, Option, Some, None, is_some, Result, Ok, Err, slice_get}
use Rattle.xfs_base.specs.Blocks.{same_block}
use Rattle.xfs_base.specs.declared.block.BlockId.{BlockId}
use Rattle.xfs_base.specs.declared.segment.Prior.{Prior}
use Rattle.xfs_base.specs.Segments.{names_none, same_name}
use Rattle.group_map.specs.declared.group.Group.{Group}
use Rattle.group_map.specs.GroupMapState.{GroupMapState}
use Rattle.group_map.specs.Groups.{group_of}
use Rattle.segment_format.specs.declared.seg_error.SegError.{SegError}
use Rattle.segment_format.specs.declared.segment.Item.{Item}
use Rattle.segment_format.specs.declared.segment.Item.TheVariants.{Block, Delta, Part}
use Rattle.segment_format.specs.declared.segment.Segment.{Segment}
use Rattle.segment_format.specs.ReadingItems.{answer_of}
use Rattle.stripe_code.specs.declared.round.RoundState.{RoundState}
use Rattle.stripe_code.specs.declared.round.RoundState.TheVariants as round
use Rattle.stripe_code.specs.declared.round.Told.{Told}
use Rattle.stripe_code.specs.declared.round.Told.TheVariants.{Held, Missing}
use Rattle.stripe_code.specs.Round.{RoundSoFar, round_start, asks, round_take, state_of, told_fits, unanswered}
use Rattle.segment_reading.specs.declared.reading.Next.{Next}
use Rattle.segment_reading.specs.declared.reading.Next.TheVariants.{Wait, Ask, Again, Read, Lost}
use Rattle.segment_reading.specs.declared.reading.Stage.{Stage}
use Rattle.segment_reading.specs.declared.reading.Stage.TheVariants.{Asking, Between, Doubted, Over}
use Rattle.segment_reading.specs.declared.target.BlockAt.{BlockAt}
use Rattle.segment_reading.specs.declared.target.Target.{Target}
use Rattle.segment_reading.specs.Lost.{are_gone}

-- what is looked for, the question of the present round, the pairs that were Missing in the round before, the present round, and where it stands
pub record ReadingState : Type 0 where
  pub target : Target
  pub ask : ℕ
  pub kept : List (ℕ × ℕ)
  pub round : RoundSoFar
  pub stage : Stage

-- what a step leaves, and what the reader does next
pub record Step : Type 0 where
  pub state : ReadingState
  pub next : Next

abbrev pub servers_of : Group → List ℕ
servers_of group = map (λ m. m.server) group.members

-- the first round begins
abbrev pub reading_start : Target → Group → ℕ → ReadingState
reading_start target group ask =
    record { target = target; ask = ask; kept = []; round = round_start (length group.members) group.parity (servers_of group); stage = Asking }

abbrev pub is_asking : Stage → Bool
is_asking Asking = true
is_asking Between = false
is_asking Doubted = false
is_asking Over = false

-- the servers that are to be asked under the present question
abbrev pub reading_unanswered : ReadingState → List ℕ
reading_unanswered r = if is_asking r.stage then unanswered r.round else []

-- ---- the segment that is looked for

-- there is no prior, or one in a group that is known
abbrev pub is_known : GroupMapState → Prior → Bool
is_known groups prior = names_none prior || is_some (group_of groups prior.group)

abbrev pub is_block : BlockId → Option Item → Bool
is_block block None = false
is_block block (Some (Block b value)) = same_block b block
is_block block (Some (Delta b ver hop item)) = false
is_block block (Some (Part slot rows)) = false

abbrev pub has_block : Option BlockAt → Segment → Bool
has_block None s = true
has_block (Some wanted) s = is_block wanted.block (slice_get s.items wanted.item)

-- it has the name, its prior is in a group that is known, and the item, where one is looked for, is a Block of the block
abbrev pub is_met_by : Target → GroupMapState → Segment → Bool
is_met_by target groups s = same_name target.seg.name s.name && (is_known groups s.prior && has_block target.block s)

abbrev pub segment_found : Target → GroupMapState → Result Segment SegError → Option Segment
segment_found target groups (Ok s) = if is_met_by target groups s then Some s else None
segment_found target groups (Err e) = None

-- ---- an answer

-- it counts: a round is on, it answers the present question, the server is asked, and a fragment can be one of the segment
abbrev pub name_fits : Target → Told → Bool
name_fits target (Held f) = same_name f.meta.name target.seg.name
name_fits target (Missing g) = true

abbrev pub counts : ReadingState → ℕ → ℕ → Told → Bool
counts r ask server told = is_asking r.stage && (ask == r.ask) && asks r.round server && (name_fits r.target told && told_fits r.round told)

-- the round ended without the segment, with these pairs: they are kept, and the reader asks its own question
abbrev pub ends : ReadingState → List (ℕ × ℕ) → Step
ends r pairs = record { state = record r { kept = pairs; stage = if are_gone r.round.parity r.kept pairs then Doubted else Between }; next = Again }

-- the text of another segment, or of none, counts as a round that ended with no pairs
abbrev pub reading_reads : ReadingState → Option Segment → Step
reading_reads r (Some s) = record { state = record r { stage = Over }; next = Read s }
reading_reads r None = ends r []

abbrev pub reading_judge : ReadingState → GroupMapState → RoundState → Step
reading_judge r groups (round.Read bytes) = reading_reads r (segment_found r.target groups (answer_of bytes))
reading_judge r groups (round.Short pairs) = ends r pairs
reading_judge r groups round.Waiting = record { state = r; next = Wait }

unfoldable pub reading_take : ReadingState → GroupMapState → ℕ → ℕ → Told → Step
reading_take r groups ask server told =
    if counts r ask server told
    then (let now = round_take r.round server told in reading_judge (record r { round = now }) groups (state_of now))
    else record { state = r; next = Wait }

-- ---- the reader's own question was answered alike

abbrev pub goes_on : ReadingState → ℕ → Stage → Step
goes_on r ask Asking = record { state = r; next = Wait }
goes_on r ask Between = record { state = record r { ask = ask; round = record r.round { answers = [] }; stage = Asking }; next = Ask }
goes_on r ask Doubted = record { state = record r { stage = Over }; next = Lost }
goes_on r ask Over = record { state = r; next = Wait }

unfoldable pub on_confirmed : ReadingState → ℕ → Step
on_confirmed r ask = goes_on r ask r.stage

-- Reading a block from a log.
use Rattle.std.specs.Prelude.{ℕ, if◌then◌else◌, ◌∷◌, Option, Some, None, is_none}
use Rattle.client_call.specs.Reads.{reading_in, set_reading, kept_while, fetches, target_of, same_target}
use Rattle.client_serving.specs.declared.serving.Serving.{Serving}
use Rattle.client_serving.specs.Sends.{Done, gives}
use Rattle.group_map.specs.declared.group.Group.{Group}
pub use Rattle.group_map.specs.Groups.{known_group as group_in}
use Rattle.node_base.specs.Asking.{next_ask, draw}
use Rattle.node_base.specs.Beginning.{items_answer, answers_unanswered}
use Rattle.node_base.specs.declared.effects.Effect.TheVariants.{Lose}
use Rattle.segment_reading.specs.declared.reading.Next.{Next}
use Rattle.segment_reading.specs.declared.reading.Next.TheVariants as next
use Rattle.segment_reading.specs.declared.reading.Stage.{Stage}
use Rattle.segment_reading.specs.declared.reading.Stage.TheVariants.{Asking, Between, Doubted, Over}
use Rattle.segment_reading.specs.declared.target.BlockAt.{BlockAt}
use Rattle.segment_reading.specs.declared.target.Target.{Target}
use Rattle.segment_reading.specs.Reading.{ReadingState, Step, reading_start, on_confirmed}
use Rattle.token_client.specs.Transition.{on_quit}
use Rattle.version_model.specs.declared.answer.Answer.TheVariants.{Lost}
use Rattle.xfs_base.specs.declared.block.BlockId.{BlockId}
use Rattle.xfs_base.specs.declared.entry.Place.{Place}
use Rattle.xfs_base.specs.declared.segment.SegName.{SegName}
use Rattle.xfs_base.specs.Steps.{still}

-- ---- the reading of the open call

abbrev pub with_reading : Serving → Option ReadingState → Serving
with_reading s r = record s { call = set_reading s.call r }

-- a question is drawn
abbrev pub draws : Serving → Serving
draws s = record s { lasting = record s.lasting { questions = draw s.lasting.questions } }

-- a reading ends with the fetch that it is for
abbrev pub ends_reading : Serving → Serving
ends_reading s = with_reading s (kept_while s.tokens (reading_in s.call))

-- ---- what is lost

-- a segment that the open call needs is lost: the call is answered so, and its want and its fetch are over
unfoldable pub loses : Serving → BlockId → SegName → Done
loses s block seg =
    gives
    (record s { lasting = record s.lasting { items = items_answer s.lasting.items }; call = None; tokens = (on_quit s.tokens block).state })
    (Lose seg ∷ answers_unanswered s.lasting.items.unanswered (Lost seg))

abbrev pub lose_at : Serving → Option BlockAt → SegName → Done
lose_at s None seg = still s
lose_at s (Some wanted) seg = loses s wanted.block seg

-- ---- rounds

abbrev pub begins_over : Serving → Target → Option Group → Done
begins_over s target None = still s
begins_over s target (Some group) = (let r = reading_start target group (next_ask s.lasting.questions) in gives (with_reading (draws s) (Some r)) (fetches r))

-- the first round begins
unfoldable pub begin_reading : Serving → Target → Done
begin_reading s target = begins_over s target (group_in s.maps.groups target.seg.group)

abbrev pub go_on_reading : Serving → ReadingState → Next → Done
go_on_reading s r next.Lost = lose_at s r.target.block r.target.seg.name
go_on_reading s r next.Ask = gives (with_reading s (Some r)) (fetches r)
go_on_reading s r next.Wait = still (with_reading s (Some r))
go_on_reading s r next.Again = still (with_reading s (Some r))
go_on_reading s r (next.Read segment) = still (with_reading s (Some r))

abbrev pub confirmed_by : Serving → Step → Done
confirmed_by s step = go_on_reading s step.state step.next

-- the question under which a further round asks: a new one where the place was confirmed between two rounds
abbrev pub ask_after : Serving → ℕ → Stage → ℕ
ask_after s ask Between = next_ask s.lasting.questions
ask_after s ask Asking = ask
ask_after s ask Doubted = ask
ask_after s ask Over = ask

abbrev pub drawn_after : Serving → Stage → Serving
drawn_after s Between = draws s
drawn_after s Asking = s
drawn_after s Doubted = s
drawn_after s Over = s

-- the place of the block was confirmed: a further round begins, or the segment is lost
unfoldable pub serving_confirm : Serving → ReadingState → Done
serving_confirm s r = confirmed_by (drawn_after s r.stage) (on_confirmed r (ask_after s r.ask r.stage))

abbrev pub reads_over : Serving → Target → Option ReadingState → Done
reads_over s target None = begin_reading s target
reads_over s target (Some r) = if same_target r.target target then serving_confirm s r else begin_reading s target

-- Read: the block is to be read at a place. That is confirmed where it is being read there and was asked for again, and else it is read anew.
unfoldable pub serving_read : Serving → BlockId → Place → Done
serving_read s block place = if is_none s.call then still s else reads_over (with_reading s None) (target_of block place) (reading_in s.call)

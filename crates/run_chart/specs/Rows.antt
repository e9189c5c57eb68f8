-- The rows of a picture: one for each event of a run that is drawn, with what it left.
use Rattle.std.specs.Prelude.{◌≡◌, ℕ, ◌+◌, min, Bool, true, ◌&&◌, nat_lt, nat_le, is_some, List, [], ◌∷◌, ◌++◌, length, map, slice_get, Option, Some, None, if◌then◌else◌}
use Rattle.std.specs.List.{count_by}
use Rattle.core_world.specs.AnyNode.{any_start, any_step}
use Rattle.core_world.specs.declared.any_node.AnyNode.{AnyNode}
use Rattle.core_world.specs.Serving.{is_serving}
use Rattle.script_text.specs.declared.script.Line.{Line}
use Rattle.script_text.specs.declared.script.Script.{Script}
use Rattle.world_base.specs.Cluster.{place_of}
use Rattle.world_base.specs.declared.event.Event.{Event}
use Rattle.world_base.specs.declared.event.Event.TheVariants.{Begin, Deliver, Tick}
use Rattle.world_base.specs.declared.world.World.{World}
use Rattle.world_base.specs.Events.{node_of}
use Rattle.world_base.specs.Items.{actor_of}
use Rattle.world_base.specs.NextWorld.{next_world, start_world}
use Rattle.xfs_base.specs.declared.node.NodeId.{NodeId}
use Rattle.xfs_base.specs.Limits.{u64_end}
use Rattle.run_chart.specs.declared.row.Before.{Before}
use Rattle.run_chart.specs.declared.row.Row.{Row}
use Rattle.run_chart.specs.declared.row.Span.{Span}
use Rattle.run_chart.specs.declared.row.Span.TheVariants as spans
use Rattle.run_chart.specs.declared.row.Walk.{Walk}

-- ---- which events are drawn

-- whether an event is drawn with which so many items have begun
abbrev pub has : Span → ℕ → Bool
has spans.Whole begun = true
has (spans.Items behind upto) begun = nat_lt behind begun && nat_le begun upto

-- whether a line is an item that stands before the line of this number
abbrev pub is_before : ℕ → Line → Bool
is_before number line = is_some (actor_of line.work) && nat_lt line.number number

-- the events of the items of the lines from one number to another
abbrev pub of_lines : List Line → ℕ → ℕ → Span
of_lines lines first last = spans.Items (count_by (is_before first) lines) (count_by (is_before (last + 1)) lines)

-- ---- rows

-- how many items have begun with an event, where so many had before
abbrev pub begun_with : ℕ → Event → ℕ
begun_with count (Begin node) = min (count + 1) u64_end
begun_with count (Deliver packet) = count
begun_with count (Tick node) = count

abbrev pub clock_or : Option ℕ → ℕ
clock_or None = 0
clock_or (Some clock) = clock

abbrev pub clock_there : List ℕ → Option ℕ → ℕ
clock_there clocks None = 0
clock_there clocks (Some place) = clock_or (slice_get clocks place)

-- the clock of a node of a world
abbrev pub clock_in : World AnyNode → NodeId → ℕ
clock_in w node = clock_there w.clocks (place_of w.cluster node)

-- how much was sent and done in a world
abbrev pub so_far : World AnyNode → Before
so_far w = record { sent = length w.sent; acts = length w.acts }

-- the row of an event, which stands at a place among all: what was sent and done in it, and which nodes serve behind it
unfoldable pub row_of : Before → World AnyNode → ℕ → ℕ → ℕ → NodeId → Row
row_of before w number begun place node = record {
  number = number;
  begun = begun;
  event = place;
  node = node;
  clock = clock_in w node;
  sent = record { from = before.sent; upto = length w.sent };
  acts = record { from = before.acts; upto = length w.acts };
  serving = map is_serving w.nodes;
}

-- the rows with that of an event, where it is drawn
unfoldable pub with_row : Span → List Row → Before → World AnyNode → ℕ → ℕ → NodeId → List Row
with_row span rows before w begun place node =
    if has span begun then rows ++ row_of before w (length rows) begun place node ∷ [] else rows

-- the walk with one event more, which made this world
abbrev pub noted : Span → Walk → ℕ → NodeId → World AnyNode → ℕ → Walk
noted span k place node w begun = record { world = w; begun = begun; rows = with_row span k.rows (so_far k.world) w begun place node }

abbrev pub with_event : Span → Walk → ℕ → Event → Walk
with_event span r place event = noted span r place (node_of event) (next_world any_step r.world event) (begun_with r.begun event)

abbrev pub with_events : Span → Walk → ℕ → List Event → Walk
with_events span r place [] = r
with_events span r place (event ∷ events) = with_events span (with_event span r place event) (place + 1) events

abbrev pub at_first : Script → Walk
at_first script = record { world = start_world any_start script; begun = 0; rows = [] }

-- the rows of a run of a script: one for each event that is drawn
unfoldable pub rows_of : Script → Span → List Event → List Row
rows_of script span events = (with_events span (at_first script) 0 events).rows

-- ---- what is so of them

-- rows have their numbers in order, from this one on
abbrev pub NumberedFrom : ℕ → List Row → Type 0
NumberedFrom n [] = Unit {0}
NumberedFrom n (row ∷ rows) = (row.number ≡ n) × NumberedFrom (n + 1) rows

-- the rows of a picture are numbered from 0 on: each event that is drawn has a row of its own
abbrev pub RowsNumbered : Type 0
RowsNumbered = (script : Script) (span : Span) (events : List Event) → NumberedFrom 0 (rows_of script span events)

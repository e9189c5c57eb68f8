-- The picture of a run with three boards: that of the run with one registry that it stands for, and which boards are up.
use Rattle.std.specs.Prelude.{ℕ, ◌+◌, min, Bool, true, false, not, List, [], ◌∷◌, ◌++◌, map, slice_get, Option, Some, None, if◌then◌else◌}
use Rattle.board_world.specs.declared.board_event.BoardEvent.{BoardEvent}
use Rattle.board_world.specs.NextBoards.{BoardsState, boards_start, is_up, boards_take}
use Rattle.core_world.specs.declared.any_node.AnyNode.{AnyNode}
use Rattle.script_text.specs.declared.script.Line.{Line}
use Rattle.script_text.specs.declared.script.Script.{Script}
use Rattle.world_base.specs.declared.estate.Estate.{Estate}
use Rattle.world_base.specs.declared.event.Event.{Event}
use Rattle.world_base.specs.declared.event.Event.TheVariants.{Begin}
use Rattle.world_base.specs.Items.{actor_of}
use Rattle.xfs_base.specs.declared.node.NodeId.{NodeId}
use Rattle.xfs_base.specs.declared.node.NodeId.TheVariants.{Registry}
use Rattle.xfs_base.specs.Limits.{u64_end}
use Rattle.xfs_base.specs.Nodes.{same_node}
use Rattle.run_chart.specs.declared.boards.Begun.{Begun}
use Rattle.run_chart.specs.declared.boards.Ups.{Ups}
use Rattle.run_chart.specs.declared.row.Row.{Row}
use Rattle.run_chart.specs.declared.row.Span.TheVariants as spans
use Rattle.run_chart.specs.Drawing.{svg}
use Rattle.run_chart.specs.Marks.{marks_of}
use Rattle.run_chart.specs.Rows.{NumberedFrom, rows_of}

-- ---- which boards are up

abbrev pub ups_in : BoardsState → Ups
ups_in w = record { first = is_up w 1; second = is_up w 2; third = is_up w 3 }

-- which boards are up behind each event of the nodes that these events stand for
abbrev pub ups_from : BoardsState → List BoardEvent → List Ups
ups_from w [] = []
ups_from w (event ∷ events) =
    map (λ _. ups_in (boards_take w event).state) (boards_take w event).outs ++ ups_from (boards_take w event).state events

unfoldable pub ups_of : Script → List BoardEvent → List Ups
ups_of script events = ups_from (boards_start script) events

abbrev pub flags_of : Option Ups → List Bool
flags_of None = []
flags_of (Some ups) = ups.first ∷ ups.second ∷ ups.third ∷ []

-- a row that shows behind the nodes the boards too
unfoldable pub with_boards : List Ups → Row → Row
with_boards ups row = record row { serving = row.serving ++ flags_of (slice_get ups row.event) }

-- ---- which line each item stands at

abbrev pub is_of : NodeId → NodeId → Bool → Bool
is_of actor node own = if own then same_node actor node else not (same_node actor node)

abbrev pub is_begun_by : Bool → Option NodeId → Bool
is_begun_by own None = false
is_begun_by own (Some actor) = is_of actor Registry own

-- the places of the items of the registry, or of those of all other nodes, from this place on
abbrev pub items_by : Bool → ℕ → List Line → List ℕ
items_by own place [] = []
items_by own place (line ∷ lines) = (if is_begun_by own (actor_of line.work) then place ∷ [] else []) ++ items_by own (place + 1) lines

abbrev pub one_of : Option ℕ → List ℕ
one_of None = []
one_of (Some place) = place ∷ []

-- the place of the item that begins by an event, where so many have begun, and how many have then
abbrev pub begun_one : List ℕ → List ℕ → Begun → Event → List ℕ
begun_one registry others k (Begin node) = if same_node node Registry then one_of (slice_get registry k.registry) else one_of (slice_get others k.others)
begun_one registry others k event = []

abbrev pub begun_next : Begun → Event → Begun
begun_next k (Begin node) =
    if same_node node Registry
    then record { registry = min (k.registry + 1) u64_end; others = k.others }
    else record { registry = k.registry; others = min (k.others + 1) u64_end }
begun_next k event = k

-- The places of items in the order in which they begin: the registry begins its items in their order, some of them late, and so do all others.
abbrev pub begun_by : List ℕ → List ℕ → Begun → List Event → List ℕ
begun_by registry others k [] = []
begun_by registry others k (event ∷ events) = begun_one registry others k event ++ begun_by registry others (begun_next k event) events

unfoldable pub begun_items : List Line → List Event → List ℕ
begun_items lines events = begun_by (items_by true 0 lines) (items_by false 0 lines) (record { registry = 0; others = 0 }) events

-- ---- the picture

-- the rows of a run with boards, all of its events
abbrev pub board_rows : Estate AnyNode → List BoardEvent → List Row
board_rows e events = map (with_boards (ups_of e.script events)) (rows_of e.script spans.Whole e.events)

-- its picture: a column more for each board
abbrev pub board_picture_of : Estate AnyNode → List Row → List ℕ
board_picture_of e rows = svg e 3 (begun_items e.script.lines e.events) rows (marks_of e rows)

abbrev pub board_chart_of : Estate AnyNode → List BoardEvent → List ℕ
board_chart_of e events = board_picture_of e (board_rows e events)

-- its rows are numbered from 0 on
abbrev pub BoardRowsNumbered : Type 0
BoardRowsNumbered = (e : Estate AnyNode) (events : List BoardEvent) → NumberedFrom 0 (board_rows e events)

-- The marks of a picture: what is drawn, in the order in which it is.
use Rattle.std.specs.Prelude.{◌≡◌, ◌<◌, ℕ, ◌+◌, Bool, true, false, ◌&&◌, ◌==◌, List, [], ◌∷◌, ◌++◌, filter, length, slice_get, Option, Some, None, if◌then◌else◌}
use Rattle.std.specs.List.{AllByRecursion, flat_map, list_any, position}
use Rattle.core_world.specs.declared.any_node.AnyNode.{AnyNode}
use Rattle.version_model.specs.declared.act.Act.{Act}
use Rattle.version_model.specs.declared.act.Act.TheVariants.{Answered}
use Rattle.wire_msg.specs.declared.packet.Packet.{Packet}
use Rattle.world_base.specs.declared.estate.Estate.{Estate}
use Rattle.world_base.specs.declared.event.Event.{Event}
use Rattle.world_base.specs.declared.event.Event.TheVariants.{Begin, Deliver, Tick}
use Rattle.xfs_base.specs.Nodes.{same_node}
use Rattle.run_chart.specs.declared.mark.Mark.{Mark}
use Rattle.run_chart.specs.declared.mark.Mark.TheVariants as mark
use Rattle.run_chart.specs.declared.row.Row.{Row}
use Rattle.run_chart.specs.Labels.{same_packet}
use Rattle.run_chart.specs.Rows.{NumberedFrom}
use Rattle.run_chart.specs.Stretches.{within}

-- ---- nodes that don't serve

-- a grey bar at each node that doesn't serve, from this column on
abbrev pub out_from : ℕ → ℕ → List Bool → List Mark
out_from row column [] = []
out_from row column (serves ∷ rest) = (if serves then [] else mark.Out row column ∷ []) ++ out_from row (column + 1) rest

-- ---- packets

-- whether the packets that are sent in the event of a row are this node's with this clock
abbrev pub sends : Packet → Row → Bool
sends packet row = (row.clock == packet.clock) && same_node row.node packet.from

-- the row in which a packet was sent, where that is drawn
abbrev pub row_sent : List Row → Packet → Option ℕ
row_sent rows packet = position (sends packet) rows

-- an arrow where a packet comes, from the row in which it was sent
abbrev pub arrow : (Packet → Option ℕ) → ℕ → Event → List Mark
arrow sent row (Begin node) = []
arrow sent row (Deliver packet) = mark.Arrow row (sent packet) ∷ []
arrow sent row (Tick node) = []

-- whether an event is the coming of a packet
abbrev pub is_coming : Packet → Event → Bool
is_coming packet (Begin node) = false
is_coming packet (Deliver other) = same_packet packet other
is_coming packet (Tick node) = false

-- whether a packet comes at any time
unfoldable pub comes : List Event → Packet → Bool
comes events packet = list_any (is_coming packet) events

-- a short arrow that ends in a cross for each packet that never comes, of those of a row from this number on
abbrev pub lost_from : (Packet → Bool) → ℕ → ℕ → List Packet → List Mark
lost_from coming row nth [] = []
lost_from coming row nth (packet ∷ packets) = (if coming packet then [] else mark.Lost row nth ∷ []) ++ lost_from coming row (nth + 1) packets

-- ---- acts

abbrev pub is_answer : Act → Bool
is_answer (Answered node item answer) = true
is_answer _ = false

-- a mark for each act but answers, of those of a row from this number on
abbrev pub acts_from : ℕ → ℕ → List Act → List Mark
acts_from row nth [] = []
acts_from row nth (act ∷ acts) = (if is_answer act then [] else mark.Done row nth ∷ []) ++ acts_from row (nth + 1) acts

-- ---- all of them

-- the marks of the coming of a packet, where it is one
abbrev pub arrow_at : (Packet → Option ℕ) → ℕ → Option Event → List Mark
arrow_at sent row None = []
arrow_at sent row (Some event) = arrow sent row event

-- What is drawn at a row, where it is known in which row a packet was sent, and whether it comes: which nodes don't serve, the packet that comes, those that
-- never do, and what is done.
unfoldable pub drawn_by : (Packet → Option ℕ) → (Packet → Bool) → Estate AnyNode → Row → List Mark
drawn_by sent coming e row =
    out_from row.number 0 row.serving
    ++ (arrow_at sent row.number (slice_get e.events row.event)
    ++ (lost_from coming row.number 0 (within row.sent e.world.sent)
    ++ acts_from row.number 0 (within row.acts e.world.acts)))

-- what is drawn at a row of these
abbrev pub drawn_at : Estate AnyNode → List Row → Row → List Mark
drawn_at e rows row = drawn_by (row_sent rows) (comes e.events) e row

-- what is written at each row
abbrev pub labels_of : List Row → List Mark
labels_of [] = []
labels_of (row ∷ rows) = mark.Label row.number ∷ labels_of rows

-- the marks of a picture: all that is drawn, and above it all that is written, so that no line strikes it through
unfoldable pub marks_of : Estate AnyNode → List Row → List Mark
marks_of e rows = flat_map (drawn_at e rows) rows ++ labels_of rows

-- ---- what is so of them

-- the row of a mark
abbrev pub row_of : Mark → ℕ
row_of (mark.Out row column) = row
row_of (mark.Arrow row sent) = row
row_of (mark.Lost row nth) = row
row_of (mark.Done row nth) = row
row_of (mark.Label row) = row

-- each mark stands at a row of the picture, where the rows are numbered from 0 on
abbrev pub StandAtRows : Estate AnyNode → List Row → Type 0
StandAtRows e rows = AllByRecursion (λ m. row_of m < length rows) (marks_of e rows)

abbrev pub MarksStandAtRows : Type 0
MarksStandAtRows = (e : Estate AnyNode) (rows : List Row) → NumberedFrom 0 rows → StandAtRows e rows

abbrev pub is_arrow : Mark → Bool
is_arrow (mark.Out row column) = false
is_arrow (mark.Arrow row sent) = true
is_arrow (mark.Lost row nth) = false
is_arrow (mark.Done row nth) = false
is_arrow (mark.Label row) = false

-- of the marks of a picture those that are arrows are just one for each row at which a packet comes, in their order: each packet that comes is drawn once, and
-- none that doesn't
abbrev pub ArrowsOnce : Estate AnyNode → List Row → Type 0
ArrowsOnce e rows = filter is_arrow (marks_of e rows) ≡ flat_map (λ row. arrow_at (row_sent rows) row.number (slice_get e.events row.event)) rows

abbrev pub ArrowsAreDrawnOnce : Type 0
ArrowsAreDrawnOnce = (e : Estate AnyNode) (rows : List Row) → ArrowsOnce e rows

-- The text of a picture: one SVG, made of its marks alone. The title of each mark tells it whole.
use Rattle.std.specs.Prelude.{ℕ, ◌+◌, ◌-◌, ◌*◌, min, ◌==◌, nat_lt, List, [], ◌∷◌, ◌++◌, codes, length, slice_get, take, Option, Some, None, if◌then◌else◌}
use Rattle.std.specs.Fmt.{decimal}
use Rattle.std.specs.List.{flat_map, range_with_len}
use Rattle.act_text.specs.Acts.{act_text}
use Rattle.act_text.specs.Answers.{answer_text}
use Rattle.act_text.specs.Pieces.{node_text}
use Rattle.core_world.specs.declared.any_node.AnyNode.{AnyNode}
use Rattle.script_print.specs.Printing.{work_line}
use Rattle.script_text.specs.declared.script.Line.{Line}
use Rattle.version_model.specs.declared.act.Act.{Act}
use Rattle.version_model.specs.declared.act.Act.TheVariants as acts
use Rattle.wire_msg.specs.declared.packet.Packet.{Packet}
use Rattle.world_base.specs.Cluster.{node_at, node_count, place_of}
use Rattle.world_base.specs.declared.cluster.Cluster.{Cluster}
use Rattle.world_base.specs.declared.estate.Estate.{Estate}
use Rattle.world_base.specs.declared.event.Event.{Event}
use Rattle.world_base.specs.declared.event.Event.TheVariants.{Begin, Deliver, Tick}
use Rattle.xfs_base.specs.declared.node.NodeId.{NodeId}
use Rattle.xfs_base.specs.Limits.{u64_end}
use Rattle.run_chart.specs.declared.label.Part.{Part}
use Rattle.run_chart.specs.declared.label.Part.TheVariants.{Tokens, Logs, Reading, Maps}
use Rattle.run_chart.specs.declared.mark.Mark.{Mark}
use Rattle.run_chart.specs.declared.mark.Mark.TheVariants as mark
use Rattle.run_chart.specs.declared.row.Row.{Row}
use Rattle.run_chart.specs.Labels.{label_of, part_of, ways_text}
use Rattle.run_chart.specs.Marks.{row_of}
use Rattle.run_chart.specs.Stretches.{within}
use Rattle.run_chart.specs.Pieces.{arrow_open, arrow_row, arrow_tip, bar_path, bar_sign, circle_at, circle_close, circle_open, circle_row, class_open, cross_path, cross_sign, life_close, life_open, mark_end, moved_to, name_open, sample_close, svg_font, svg_height, svg_open, text_close, title_line, turned_by, words_open}
use Rattle.run_chart.specs.Places.{height_of, width_of, x_of, y_of}

-- ---- text within marks

abbrev pub xml_byte : ℕ → List ℕ
xml_byte b = if b == 38 then codes "&amp;" else if b == 60 then codes "&lt;" else if b == 62 then codes "&gt;" else b ∷ []

-- a text that stands within a mark
unfoldable pub xml_text : List ℕ → List ℕ
xml_text text = flat_map xml_byte text

-- the title of a mark, which a browser shows where the mouse is over it: at most 400 bytes of it
unfoldable pub title_text : List ℕ → List ℕ
title_text text = codes "<title>" ++ (xml_text (take 400 text) ++ codes "</title>")

-- the class by which a packet has its colour
unfoldable pub part_text : Part → List ℕ
part_text Tokens = codes "tokens"
part_text Logs = codes "logs"
part_text Reading = codes "reading"
part_text Maps = codes "maps"

-- the class by which an act has its colour
unfoldable pub act_class : Act → List ℕ
act_class (acts.Wrote client block value) = codes "wrote"
act_class (acts.Read client block ver value) = codes "read"
act_class (acts.Synced client) = codes "synced"
act_class (acts.Fell client flight falls) = codes "fell"
act_class (acts.Back client chain) = codes "back"
act_class (acts.Lost node seg) = codes "gone"
act_class (acts.Filed seg) = codes "filed"
act_class (acts.Dropped seg) = codes "dropped"
act_class (acts.Answered node item answer) = codes "answered"

abbrev pub column_or : Option ℕ → ℕ
column_or None = 0
column_or (Some column) = column

-- the column of a node
abbrev pub column_of : Cluster → NodeId → ℕ
column_of c node = column_or (place_of c node)

-- what begins a mark that stands at a node's column and at a row
unfoldable pub at_text : ℕ → ℕ → List ℕ
at_text column row = moved_to ++ (decimal (x_of column) ++ 44 ∷ (decimal (y_of row) ++ codes ")'"))

-- ---- what is written at a row

-- a line of the script: its number and what it asks for
unfoldable pub line_text : Option Line → List ℕ
line_text None = []
line_text (Some line) = decimal line.number ++ 32 ∷ work_line line.work

abbrev pub line_at : List Line → Option ℕ → Option Line
line_at lines None = None
line_at lines (Some place) = slice_get lines place

-- the line of the item that begins after so many others: items begin in the order of their lines
abbrev pub begun_line : List Line → List ℕ → ℕ → Option Line
begun_line lines items begun = line_at lines (slice_get items (begun - 1))

unfoldable pub event_text : List Line → List ℕ → Row → Option Event → List ℕ
event_text lines items row None = []
event_text lines items row (Some (Begin node)) = line_text (begun_line lines items row.begun)
event_text lines items row (Some (Deliver packet)) = label_of packet.body
event_text lines items row (Some (Tick node)) = []

-- an answer stands behind an equals sign
abbrev pub answer_of : Act → List ℕ
answer_of (acts.Answered node item answer) = codes " = " ++ answer_text answer
answer_of _ = []

-- the line that begins at a row, or the packet that comes; and the answers that are given
unfoldable pub written_at : Estate AnyNode → List ℕ → Row → List ℕ
written_at e items row = event_text e.script.lines items row (slice_get e.events row.event) ++ flat_map answer_of (within row.acts e.world.acts)

-- ---- marks

-- what begins a mark of a class that stands by itself
unfoldable pub class_text : List ℕ → List ℕ
class_text name = codes "<g class='" ++ (name ++ codes "'>")

-- the name of a board, of those that stand behind all nodes
abbrev pub board_name : ℕ → List ℕ
board_name place = 98 ∷ decimal (min (place + 1) u64_end)

-- the name over a column: that of a node, or of a board
unfoldable pub column_name : Cluster → ℕ → List ℕ
column_name c column = if nat_lt column (node_count c) then node_text (node_at c column) else board_name (column - node_count c)

unfoldable pub out_title : Cluster → ℕ → List ℕ
out_title c column = column_name c column ++ codes " doesn't serve"

unfoldable pub out_text : Cluster → ℕ → ℕ → List ℕ
out_text c row column = at_text column row ++ (bar_path ++ (title_text (out_title c column) ++ mark_end))

-- where an arrow begins: at its row, or at the upper end of the columns
abbrev pub tail_of : Option ℕ → ℕ
tail_of None = 90
tail_of (Some row) = y_of row

unfoldable pub ends_text : Cluster → ℕ → Option ℕ → Packet → List ℕ
ends_text c row sent p =
    codes "<line x1='" ++ (decimal (x_of (column_of c p.from)) ++ (codes "' y1='" ++ (decimal (tail_of sent)
    ++ (codes "' x2='" ++ (decimal (x_of (column_of c p.to)) ++ (codes "' y2='" ++ decimal (y_of row)))))))

unfoldable pub line_of_arrow : Cluster → ℕ → Option ℕ → Packet → List ℕ
line_of_arrow c row sent p = ends_text c row sent p ++ arrow_tip

unfoldable pub packet_title : Packet → List ℕ
packet_title p = label_of p.body ++ ways_text p

unfoldable pub arrow_text : Cluster → ℕ → Option ℕ → Packet → List ℕ
arrow_text c row sent p = class_text (part_text (part_of p.body)) ++ (line_of_arrow c row sent p ++ (title_text (packet_title p) ++ mark_end))

-- by how much a lost packet's arrow is turned, so that those of one row are told apart
abbrev pub turn_of : ℕ → ℕ
turn_of nth = min nth 8 * 10

unfoldable pub cross_text : Part → ℕ → List ℕ
cross_text part nth =
    class_open ++ (part_text part ++ (turned_by ++ (decimal (turn_of nth) ++ cross_path)))

unfoldable pub lost_title : Packet → List ℕ
lost_title p = packet_title p ++ codes ", never delivered"

unfoldable pub lost_text : Cluster → ℕ → ℕ → Packet → List ℕ
lost_text c row nth p = at_text (column_of c p.from) row ++ (cross_text (part_of p.body) nth ++ (title_text (lost_title p) ++ mark_end))

unfoldable pub dot_text : Act → ℕ → List ℕ
dot_text a nth = class_open ++ (act_class a ++ (circle_at ++ (decimal (min nth 8 * 6) ++ circle_close)))

unfoldable pub done_text : ℕ → ℕ → ℕ → Act → List ℕ
done_text column row nth a = at_text column row ++ (dot_text a nth ++ (title_text (act_text a) ++ mark_end))

-- at most 44 bytes of what is written stand in the picture
unfoldable pub words_text : List ℕ → List ℕ
words_text text = words_open ++ (xml_text (take 44 text) ++ text_close)

unfoldable pub label_text : ℕ → ℕ → List ℕ → List ℕ
label_text column row text = at_text column row ++ (words_text text ++ (title_text text ++ mark_end))

abbrev pub done_by : ℕ → ℕ → ℕ → Option Act → List ℕ
done_by column row nth None = []
done_by column row nth (Some act) = done_text column row nth act

module _ (e : Estate AnyNode) where
  abbrev pub arrow_by : ℕ → Option ℕ → Option Event → List ℕ
  arrow_by row sent None = []
  arrow_by row sent (Some (Begin node)) = []
  arrow_by row sent (Some (Deliver packet)) = arrow_text e.world.cluster row sent packet
  arrow_by row sent (Some (Tick node)) = []

  abbrev pub lost_by : ℕ → ℕ → Option Packet → List ℕ
  lost_by row nth None = []
  lost_by row nth (Some packet) = lost_text e.world.cluster row nth packet

module _ (e : Estate AnyNode) (items : List ℕ) where
  -- the text of a mark of a row
  abbrev pub text_at : Row → Mark → List ℕ
  text_at r (mark.Out row column) = out_text e.world.cluster r.number column
  text_at r (mark.Arrow row sent) = arrow_by e r.number sent (slice_get e.events r.event)
  text_at r (mark.Lost row nth) = lost_by e r.number nth (slice_get (within r.sent e.world.sent) nth)
  text_at r (mark.Done row nth) = done_by (column_of e.world.cluster r.node) r.number nth (slice_get (within r.acts e.world.acts) nth)
  text_at r (mark.Label row) = label_text (column_of e.world.cluster r.node) r.number (written_at e items r)

  abbrev pub text_of : Option Row → Mark → List ℕ
  text_of None m = []
  text_of (Some r) m = text_at r m

  -- the text of a mark
  abbrev pub mark_text : List Row → Mark → List ℕ
  mark_text rows m = text_of (slice_get rows (row_of m)) m

-- ---- the whole

-- the columns: the name of each node and of so many boards, and its line
unfoldable pub name_text : Cluster → ℕ → List ℕ
name_text c column = name_open ++ (column_name c column ++ text_close)

unfoldable pub column_text : Cluster → ℕ → ℕ → List ℕ
column_text c rows column =
    moved_to ++ (decimal (x_of column) ++ (name_text c column
    ++ (life_open ++ (decimal (y_of rows) ++ life_close))))

abbrev pub columns_in : Cluster → ℕ → ℕ
columns_in c boards = min (node_count c + boards) u64_end

unfoldable pub columns_text : Cluster → ℕ → ℕ → List ℕ
columns_text c boards rows = flat_map (column_text c rows) (range_with_len 0 (columns_in c boards))

-- what each colour means
unfoldable pub arrow_sample : List ℕ → List ℕ
arrow_sample name = arrow_open ++ (name ++ sample_close)

unfoldable pub arrow_meaning : ℕ → Part → List ℕ
arrow_meaning x part = moved_to ++ (decimal x ++ (arrow_row ++ (part_text part ++ arrow_sample (part_text part))))

unfoldable pub dot_sample : List ℕ → List ℕ
dot_sample name = circle_open ++ (name ++ sample_close)

unfoldable pub dot_meaning : ℕ → List ℕ → List ℕ
dot_meaning x name = moved_to ++ (decimal x ++ (circle_row ++ (name ++ dot_sample name)))

unfoldable pub arrow_meanings : List ℕ
arrow_meanings = arrow_meaning 20 Tokens ++ (arrow_meaning 100 Logs ++ (arrow_meaning 170 Reading ++ arrow_meaning 250 Maps))

unfoldable pub first_dots : List ℕ
first_dots = dot_meaning 23 (codes "wrote") ++ (dot_meaning 75 (codes "read") ++ (dot_meaning 120 (codes "synced") ++ dot_meaning 178 (codes "filed")))

unfoldable pub last_dots : List ℕ
last_dots = dot_meaning 222 (codes "dropped") ++ (dot_meaning 285 (codes "fell") ++ (dot_meaning 325 (codes "back") ++ dot_meaning 370 (codes "gone")))

unfoldable pub dot_meanings : List ℕ
dot_meanings = first_dots ++ (last_dots ++ 10 ∷ [])

unfoldable pub signs : List ℕ
signs =
    bar_sign
    ++ cross_sign

unfoldable pub legend : List ℕ
legend =
    title_line ++ (signs ++ (arrow_meanings ++ dot_meanings))

-- the colours
unfoldable pub style : List ℕ
style =
    codes "<style>text{fill:#222;stroke:#fff;stroke-width:4px;stroke-linejoin:round;paint-order:stroke}path{fill:none}.life{stroke:#ccc}.out,.out path{fill:#999}"
    ++ (codes ".tokens{stroke:#c2452d}.logs{stroke:#2f6db3}.reading{stroke:#3b8a3e}.maps{stroke:#8a5fb0}"
    ++ (codes ".wrote{fill:#c2452d}.read{fill:#3b8a3e}.synced{fill:#c9a227}.filed{fill:#2f6db3}.dropped{fill:#999}.fell{fill:#222}.back{fill:#8a5fb0}.gone{fill:#e0218a}</style>"
    ++ (codes "<defs><marker id='tip' viewBox='0 0 6 6' refX='6' refY='3' markerWidth='6' markerHeight='6' orient='auto'>"
    ++ (codes "<path d='M0 0L6 3L0 6z' style='fill:#444'/></marker></defs>" ++ 10 ∷ []))))

-- what stands before the marks: the size, the colours, what they mean, and the columns
unfoldable pub head_text : Cluster → ℕ → ℕ → List ℕ
head_text c boards rows =
    svg_open ++ (decimal (width_of (columns_in c boards)) ++ (svg_height ++ (decimal (height_of rows)
    ++ svg_font)))

unfoldable pub frame_text : Cluster → ℕ → ℕ → List ℕ
frame_text c boards rows = head_text c boards rows ++ (style ++ (legend ++ columns_text c boards rows))

-- the text of a picture of these rows, with so many boards
unfoldable pub svg : Estate AnyNode → ℕ → List ℕ → List Row → List Mark → List ℕ
svg e boards items rows marks = frame_text e.world.cluster boards (length rows) ++ (flat_map (mark_text e items rows) marks ++ (codes "</svg>" ++ 10 ∷ []))

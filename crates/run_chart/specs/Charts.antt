-- The picture of a run: of the events that are drawn, where they are not too many.
use Rattle.std.specs.Prelude.{ℕ, ◌+◌, List, [], ◌∷◌, ◌++◌, if◌then◌else◌}
use Rattle.core_world.specs.declared.any_node.AnyNode.{AnyNode}
use Rattle.script_text.specs.declared.script.Line.{Line}
use Rattle.transcript.specs.Replies.{is_item}
use Rattle.world_base.specs.declared.estate.Estate.{Estate}
use Rattle.run_chart.specs.declared.row.Row.{Row}
use Rattle.run_chart.specs.declared.row.Span.{Span}
use Rattle.run_chart.specs.Drawing.{svg}
use Rattle.run_chart.specs.Marks.{marks_of}
use Rattle.run_chart.specs.Rows.{rows_of}

-- more events than this are not drawn in one picture
abbrev pub max_rows : ℕ
max_rows = 20000

-- the places of items among lines, from this place on
abbrev pub items_from : ℕ → List Line → List ℕ
items_from place [] = []
items_from place (line ∷ lines) = (if is_item line then place ∷ [] else []) ++ items_from (place + 1) lines

-- the rows of a run that are drawn
abbrev pub rows_drawn : Estate AnyNode → Span → List Row
rows_drawn e span = rows_of e.script span e.events

-- the picture of these rows: the text of their marks
abbrev pub picture_of : Estate AnyNode → List Row → List ℕ
picture_of e rows = svg e 0 (items_from 0 e.script.lines) rows (marks_of e rows)

abbrev pub chart_of : Estate AnyNode → Span → List ℕ
chart_of e span = picture_of e (rows_drawn e span)

-- The rows of a picture are numbered from 0 on.
use Rattle.std.proofs.Common.{◌≡◌, ℕ, ◌+◌, List, [], ◌∷◌, ◌++◌, length, map, arith}
use Rattle.world_base.specs.declared.event.Event.{Event}
use Rattle.world_base.specs.Events.{node_of}
use Rattle.core_world.specs.AnyNode.{any_step}
use Rattle.world_base.specs.NextWorld.{next_world}
use Rattle.xfs_base.proofs.Booleans.{by_test}
use Rattle.run_chart.specs.declared.boards.Ups.{Ups}
use Rattle.run_chart.specs.declared.row.Row.{Row}
use Rattle.run_chart.specs.declared.row.Span.{Span}
use Rattle.run_chart.specs.declared.row.Span.TheVariants as spans
use Rattle.run_chart.specs.declared.row.Walk.{Walk}
use Rattle.run_chart.specs.Boards.{BoardRowsNumbered, ups_of, with_boards}
use Rattle.run_chart.specs.Rows.{NumberedFrom, RowsNumbered, at_first, begun_with, has, row_of, rows_of, so_far, with_event, with_events, with_row}

one_more : (n : ℕ) (rows : List Row) (row : Row) → NumberedFrom n rows → row.number ≡ n + length rows → NumberedFrom n (rows ++ row ∷ [])
one_more n [] row t e = (omega arith, tt)
one_more n (first ∷ rows) row t e = (t.0, one_more (n + 1) rows row t.1 (omega arith))

with_one : (span : Span) (w : Walk) (place : ℕ) (event : Event) → NumberedFrom 0 w.rows → NumberedFrom 0 (with_event span w place event).rows
unfolding with_row row_of
with_one span w place event t =
    let begun = begun_with w.begun event in
    let row : Row = row_of (so_far w.world) (next_world any_step w.world event) (length w.rows) begun place (node_of event) in
    by_test (NumberedFrom 0) (has span begun) (w.rows ++ row ∷ []) w.rows (λ _. one_more 0 w.rows row t (omega arith)) (λ _. t)

with_all : (span : Span) (w : Walk) (place : ℕ) (events : List Event) → NumberedFrom 0 w.rows → NumberedFrom 0 (with_events span w place events).rows
with_all span w place [] t = t
with_all span w place (event ∷ events) t = with_all span (with_event span w place event) (place + 1) events (with_one span w place event t)

pub rows_numbered : RowsNumbered
unfolding rows_of
rows_numbered script span events = with_all span (at_first script) 0 events tt

-- boards leave each row its number
with_all_boards : (ups : List Ups) (n : ℕ) (rows : List Row) → NumberedFrom n rows → NumberedFrom n (map (with_boards ups) rows)
unfolding with_boards
with_all_boards ups n [] t = tt
with_all_boards ups n (row ∷ rows) t = (t.0, with_all_boards ups (n + 1) rows t.1)

pub board_rows_numbered : BoardRowsNumbered
board_rows_numbered e events = with_all_boards (ups_of e.script events) 0 (rows_of e.script spans.Whole e.events) (rows_numbered e.script spans.Whole e.events)

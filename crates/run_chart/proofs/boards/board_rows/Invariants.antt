use Rattle.std.proofs.Common.{◌≡◌, ◌++◌, map}
use Rattle.std.specs.Vec.Iter.{into_iter_items}
use Rattle.run_chart.specs.Boards.{board_rows, with_boards}
use Rattle.run_chart.proofs.boards.board_rows.Given as goal

abbrev pub invariant-loop-row : goal.invariant-loop-row
invariant-loop-row l = l.rows ++ map (with_boards l.ups) (into_iter_items l.row-iterator) ≡ board_rows l.estate l.events

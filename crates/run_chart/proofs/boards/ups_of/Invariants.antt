use Rattle.std.proofs.Common.{◌≡◌, ◌++◌, drop}
use Rattle.board_world.specs.NextBoards.{boards_start}
use Rattle.run_chart.specs.Boards.{ups_from}
use Rattle.run_chart.proofs.boards.ups_of.Given as goal

abbrev pub invariant-loop-event : goal.invariant-loop-event
invariant-loop-event l = l.all ++ ups_from l.boards (drop l.event-index l.events) ≡ ups_from (boards_start l.script) l.events

use Rattle.std.proofs.Common.{◌≡◌, ◌++◌, drop}
use Rattle.run_chart.specs.Boards.{begun_by}
use Rattle.run_chart.proofs.boards.begun_items.Given as goal

abbrev pub invariant-loop-event : goal.invariant-loop-event
invariant-loop-event l =
    l.items ++ begun_by l.registry l.others l.begun (drop l.event-index l.events) ≡ begun_by l.registry l.others (record { registry = 0; others = 0 }) l.events

use Rattle.std.proofs.Common.{◌≡◌, ◌++◌, drop, map}
use Rattle.run_chart.proofs.boards.add_ups.Given as goal

abbrev pub invariant-loop-event : goal.invariant-loop-event
invariant-loop-event l = l.all ++ map (λ _. l.ups) (drop l.event-index l.events) ≡ l.fn.all ++ map (λ _. l.ups) l.events

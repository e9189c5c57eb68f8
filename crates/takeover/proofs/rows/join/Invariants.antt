use Rattle.std.proofs.Common.{◌≡◌, drop}
use Rattle.takeover.specs.Transition.{rows_join}
use Rattle.takeover.proofs.rows.join.Given as goal

-- once those to come are merged, all are
abbrev pub invariant-loop-place : goal.invariant-loop-place
invariant-loop-place l = rows_join l.index (drop l.place l.chain.items) ≡ rows_join l.initial.index l.chain.items

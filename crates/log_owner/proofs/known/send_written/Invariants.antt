use Rattle.std.proofs.Common.{◌≡◌, ◌++◌}
use Rattle.std.specs.Vec.Iter.{into_iter_items}
use Rattle.xfs_base.specs.Steps.{steps}
use Rattle.log_owner.specs.Opening.{send_one}
use Rattle.log_owner.proofs.known.send_written.Given as goal

-- what is written so far, and what is to come, is all
abbrev pub invariant-loop-out : goal.invariant-loop-out
invariant-loop-out l =
    let rest = steps send_one l.settled (into_iter_items l.out-iterator) in
    let all = steps send_one l.initial.settled (into_iter_items l.initial.out-iterator) in
    record { state : rest.state ≡ all.state; outs : l.effects ++ rest.outs ≡ l.initial.effects ++ all.outs }

use Rattle.std.proofs.Common.{◌≡◌, ◌++◌}
use Rattle.std.specs.Vec.Iter.{into_iter_items}
use Rattle.xfs_base.specs.Steps.{steps}
use Rattle.log_owner.specs.Opening.{sent_send}
use Rattle.log_owner.proofs.ended.send_outs.Given as goal

-- what is said so far, and what is to come, is all
abbrev pub invariant-loop-out : goal.invariant-loop-out
invariant-loop-out l =
    let rest = steps (sent_send l.owner l.low) l.sent (into_iter_items l.out-iterator) in
    let all = steps (sent_send l.owner l.low) l.initial.sent (into_iter_items l.initial.out-iterator) in
    record { state : rest.state ≡ all.state; outs : l.effects ++ rest.outs ≡ l.initial.effects ++ all.outs }

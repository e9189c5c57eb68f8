use Rattle.std.proofs.Common.{◌≡◌, ◌++◌, drop}
use Rattle.xfs_base.specs.Steps.{steps}
use Rattle.client_serving.proofs.serving.Serving.hear_all.Given as goal
use Rattle.client_serving.specs.Packets.{serving_hear}

abbrev pub invariant-loop-slot : goal.invariant-loop-slot
invariant-loop-slot l =
    let rest = steps serving_hear l.self (drop l.slot-index l.slots) in
    let all = steps serving_hear l.initial.self l.slots in
    record {
      state : rest.state ≡ all.state;
      outs : l.effects ++ rest.outs ≡ l.initial.effects ++ all.outs;
    }

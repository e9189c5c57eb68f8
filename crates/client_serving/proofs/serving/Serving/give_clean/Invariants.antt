use Rattle.std.proofs.Common.{◌≡◌, ◌++◌, drop}
use Rattle.xfs_base.specs.Steps.{steps}
use Rattle.client_serving.proofs.serving.Serving.give_clean.Given as goal
use Rattle.client_serving.specs.Flights.{give_if_clean}

abbrev pub invariant-loop-block : goal.invariant-loop-block
invariant-loop-block l =
    let rest = steps give_if_clean l.self (drop l.block-index l.blocks) in
    let all = steps give_if_clean l.initial.self l.blocks in
    record {
      state : rest.state ≡ all.state;
      outs : l.effects ++ rest.outs ≡ l.initial.effects ++ all.outs;
    }

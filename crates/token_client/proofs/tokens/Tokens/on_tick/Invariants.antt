use Rattle.std.proofs.Common.{◌≡◌, ◌++◌, drop}
use Rattle.xfs_base.specs.Steps.{steps}
use Rattle.token_client.specs.Transition.{ask_again}
use Rattle.token_client.proofs.tokens.Tokens.on_tick.Given as goal

abbrev pub invariant-loop-block : goal.invariant-loop-block
invariant-loop-block l =
    let rest = steps ask_again l.self (drop l.block-index l.block-items) in
    let all = steps ask_again l.initial.self l.block-items in
    record { state : rest.state ≡ all.state; outs : l.outs ++ rest.outs ≡ l.initial.outs ++ all.outs }

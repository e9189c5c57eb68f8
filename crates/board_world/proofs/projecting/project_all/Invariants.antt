use Rattle.std.proofs.Common.{◌≡◌, ◌++◌, drop}
use Rattle.xfs_base.specs.Steps.{steps}
use Rattle.board_world.specs.Projection.{project}
use Rattle.board_world.proofs.projecting.project_all.Given as goal

-- the events so far, and those of the commands to come, are all
abbrev pub invariant-loop-command : goal.invariant-loop-command
invariant-loop-command l =
    let rest = steps (project l.items) l.begun (drop l.command-index l.commands) in
    let all = steps (project l.items) l.initial.begun l.commands in
    record { state : rest.state ≡ all.state; outs : l.events ++ rest.outs ≡ l.initial.events ++ all.outs }

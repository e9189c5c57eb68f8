-- While no restart of the nodes was doubtful, none is doubtful in the small world of any log.
use Rattle.std.specs.Prelude.{◌≡◌, ℕ, false}
use Rattle.core_world.specs.declared.any_node.AnyNode.{AnyNode}
use Rattle.log_law.specs.Restarts.{IsSureRun}
use Rattle.log_tie.specs.Setting.{Setting}
use Rattle.world_base.specs.declared.estate.Estate.{Estate}
use Rattle.run_laws.specs.world_logs.Lines.{HasLines}
use Rattle.headline.specs.Logs.{IsThere, Role, renews}
use Rattle.headline.specs.Restarts.{NoDoubtfulRestart}

-- the line of a client's log, and of the cleaner's, is sure up to each count up to which no restart was doubtful
abbrev pub UndoubtedRunsAreSure : Type 0
UndoubtedRunsAreSure =
    (base : Setting) (e : Estate AnyNode) (lines : HasLines base e) (count : ℕ) → NoDoubtfulRestart e count → (r : Role)
    (there : IsThere e.script.setup.clients e.script.setup.managers r) → renews r ≡ false → IsSureRun ((lines r there).stands count).moment.run

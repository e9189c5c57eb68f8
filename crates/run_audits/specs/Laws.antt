-- What is so of each run of a script of whose setup a run can be started: its acts name what is, no name of a listing has a line feed, and its text is said to be
-- legal.
use Rattle.std.specs.Prelude.{ℕ}
use Rattle.std.specs.List.{AllByRecursion}
use Rattle.core_world.specs.AnyNode.{any_start, any_step}
use Rattle.core_world.specs.declared.any_node.AnyNode.{AnyNode}
use Rattle.headline.specs.Audits.{IsAuditedLegal}
use Rattle.headline.specs.Moments.{moment}
use Rattle.headline.specs.Restarts.{NoDoubtfulRestart}
use Rattle.journal_law.specs.Runs.{IsAnsweredInALine}
use Rattle.node_base.specs.Setups.{IsSetup}
use Rattle.token_protocol.specs.Basics.{In}
use Rattle.version_model.specs.declared.act.Act.{Act}
use Rattle.world_base.specs.declared.estate.Estate.{Estate}
use Rattle.world_base.specs.Runs.{IsRun}
use Rattle.run_audits.specs.Names.{NamesWhatIs}
use Rattle.run_audits.specs.Ranges.{FitsAct}

-- up to each moment up to which no restart that ended was doubtful each act names what is
abbrev pub ActsNameWhatIs : Type 0
ActsNameWhatIs =
    (e : Estate AnyNode) → IsSetup e.script.setup → IsRun any_step any_start e.script e.events e.world → (count : ℕ) → NoDoubtfulRestart e count → (a : Act)
    → In a (moment e count).acts → NamesWhatIs a

-- each item is answered in a line
abbrev pub ItemsAreAnsweredInLines : Type 0
ItemsAreAnsweredInLines =
    (e : Estate AnyNode) → IsRun any_step any_start e.script e.events e.world → AllByRecursion IsAnsweredInALine e.world.acts

-- so its text is said to be legal, where the numbers and the bytes of its acts are in the ranges of their types
abbrev pub RunsAreAuditedLegal : Type 0
RunsAreAuditedLegal =
    (e : Estate AnyNode) → IsSetup e.script.setup → IsRun any_step any_start e.script e.events e.world → AllByRecursion FitsAct e.world.acts → IsAuditedLegal e

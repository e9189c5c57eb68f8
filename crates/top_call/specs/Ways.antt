-- In which ways one thread plays a script that is read, and what that answers.
use Rattle.std.specs.Prelude.{◌≡◌, ◌≤◌, ℕ, IfSome, false, List, Some}
use Rattle.script_text.specs.declared.script.Script.{Script}
use Rattle.script_text.specs.Script.{IsScriptOf}
use Rattle.version_model.specs.declared.work.Work.{Work}
use Rattle.wire_msg.specs.declared.packet.Do.{Do}
use Rattle.wire_msg.specs.NodeStep.{NodeStep}
use Rattle.xfs_base.specs.declared.node.NodeId.{NodeId}
use Rattle.xfs_base.specs.declared.setup.Setup.{Setup}
use Rattle.top_call.specs.declared.command.Command.{Command}
use Rattle.top_call.specs.declared.command.Command.TheVariants.{Run, Boards, Disks}
use Rattle.top_call.specs.declared.outcome.Outcome.{Outcome}
use Rattle.top_call.specs.declared.one_script.Way.{Way}
use Rattle.top_call.specs.declared.one_script.Way.TheVariants.{Plainly, WithBoards, WithDisks}
use Rattle.top_call.specs.Claim.{AnswersOrGivesUp, IsRunBy, Writing, boards_of}

-- the command that asks for it
abbrev pub command_by : Way → Command
command_by Plainly = Run
command_by WithBoards = Boards
command_by WithDisks = Disks

-- A script is played so: each input that spells it is answered as the command asks, or memory is wanting; what was run and what happened to boards is told as
-- the claim of the call says, and no count of faults falls.
pub record AnswersBy {N : Type 0} (step : N → Do → NodeStep N) (first : NodeId → Setup → List Work → N) (command : Command) (script : Script) (s : Writing)
    (o : Outcome N) : Type 0 where
  pub told : (input : List ℕ) → IsScriptOf false input script → AnswersOrGivesUp step first (Some command) input s o
  pub run : IfSome o.estate (IsRunBy step first (Some command))
  pub boards : o.boards ≡ boards_of step first (Some command) o.estate
  pub later : s.faults ≤ s.faults_after

-- How nodes are left at the end of a run.
use Rattle.std.specs.Prelude.{ℕ, ◌≤◌, Bool, true, false, List}
use Rattle.script_text.specs.declared.script.Script.{Script}
use Rattle.version_model.specs.declared.work.Work.{Work}
use Rattle.wire_msg.specs.declared.packet.Do.{Do}
use Rattle.wire_msg.specs.NodeStep.{NodeStep}
use Rattle.xfs_base.specs.declared.node.NodeId.{NodeId}
use Rattle.xfs_base.specs.declared.setup.Setup.{Setup}
use Rattle.journals.specs.declared.moment.Moment.{Moment}
use Rattle.live_links.specs.Answered.{waited_at}
use Rattle.live_links.specs.Facts.{IsDone}

-- how often time passes at each node behind the last answer of a run before it is given up
abbrev pub last_wait : ℕ
last_wait = 256

module _ {N : Type 0} (step : N → Do → NodeStep N) (first : NodeId → Setup → List Work → N) (script : Script) where
  -- In a full run each item of the node at a place was begun and is answered; in one that was given up time passed there so often behind its last answer.
  abbrev pub IsEnded : Bool → ℕ → List Moment → Type 0
  IsEnded true place moments = IsDone step first script place moments
  IsEnded false place moments = last_wait ≤ waited_at step first script place moments

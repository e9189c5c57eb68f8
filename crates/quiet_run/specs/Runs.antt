-- The runs of quiet scripts.
use Rattle.std.specs.Prelude.{◌≡◌, ◌<◌, ◌+◌, ◌⊎◌, ℕ, suc, true, List, Some}
use Rattle.core_world.specs.AnyNode.{any_start, any_step}
use Rattle.core_world.specs.declared.any_node.AnyNode.{AnyNode}
use Rattle.node_base.specs.Setups.{IsSetup}
use Rattle.play.specs.Plays.{estate_of}
use Rattle.script_text.specs.declared.script.Script.{Script}
use Rattle.version_model.specs.declared.work.Work.{Work}
use Rattle.world_base.specs.Items.{actor_of}
use Rattle.xfs_base.specs.declared.node.NodeId.{NodeId}
use Rattle.xfs_base.specs.declared.node.NodeId.TheVariants.{Client}
use Rattle.xfs_base.specs.declared.setup.Setup.{Setup}
use Rattle.quiet_flow.specs.Flow.{Stage}
use Rattle.quiet_gets.specs.Passing.{AreInOrder}
use Rattle.quiet_law.specs.Drained.{Drained, most_steps}
use Rattle.quiet_law.specs.Lines.{Ends, EndsAfterRound, IsNext, Stands}
use Rattle.quiet_nodes.specs.Scene.{Scene}
use Rattle.quiet_script.specs.Quiet.{IsOrderly, is_in_range}
use Rattle.headline.specs.Bounds.{AnswersWithinBounds, IsQuiet, is_quiet, most_deliveries}

-- each quiet line of a client leads from one drained state, in which what clients know of blocks stands in order, to the next, two steps later
abbrev pub EachLineLeadsOn : Type 0
EachLineLeadsOn =
    (setup : Setup) (works : NodeId → List Work) → IsSetup setup
    → (k : ℕ) (s : Scene) (t : Stage AnyNode) (c : ℕ) (w : Work) → suc k < most_steps → Drained setup works k s → Stands setup works s t → IsNext setup works s c w
    → AreInOrder setup works s → is_quiet w ≡ true → is_in_range setup w ≡ true → actor_of w ≡ Some (Client c)
    → Ends setup works (suc k) most_deliveries s t c ((s.client c).begun + 1) ⊎ EndsAfterRound setup works (suc k) 63 65 s t c ((s.client c).begun + 1)

-- the run of each quiet script is answered within the bounds
abbrev pub QuietScriptsAreAnswered : Type 0
QuietScriptsAreAnswered = (script : Script) → IsOrderly script → IsQuiet script → AnswersWithinBounds any_step any_start (estate_of any_step any_start script)

-- the one follows from the other
abbrev pub LinesAnswerScripts : Type 0
LinesAnswerScripts = EachLineLeadsOn → QuietScriptsAreAnswered

-- Of a run whose items are calls, files among them, and begin while none is open, the text is the one machine's.
use Rattle.std.proofs.Common.{◌≤◌, [], length, refl}
use Rattle.core_world.specs.AnyNode.{any_start, any_step}
use Rattle.core_world.specs.declared.any_node.AnyNode.{AnyNode}
use Rattle.file_plan.specs.Driving.{nothing_written, root_alone}
use Rattle.headline.specs.InLine.{AnswersInLine, answers_in}
use Rattle.headline.specs.OneMachine.{AreCalls, AreDone, BeginsAlone}
use Rattle.headline.specs.Restarts.{LosesNone}
use Rattle.node_base.specs.Setups.{IsSetup}
use Rattle.one_machine.specs.Machine.{IsAsOneMachine}
use Rattle.one_machine.specs.Trees.{AreFit, EachScriptKeepsTheTree}
use Rattle.run_answers.specs.change_law.Changes.{EachRunsCallsFindVersions}
use Rattle.world_base.specs.declared.estate.Estate.{Estate}
use Rattle.world_base.specs.Items.{works_of}
use Rattle.world_base.specs.Runs.{IsRun}
use Rattle.xfs_base.specs.Limits.{max_lines}
use Rattle.run_text.proofs.CallItems.{calls_lose_none, calls_serve}
use Rattle.run_text.proofs.CallLines.{serves_all}
use Rattle.run_text.proofs.CallRuns.{all_given}
use Rattle.run_text.proofs.Texts.{in_line_done, text_is}
use Rattle.run_text.proofs.Whole.{Below}
use Rattle.run_text.specs.Runs.{EachRunWithFilesIsAsOneMachine}

module _ (below : Below) (trees : EachScriptKeepsTheTree) (finds : EachRunsCallsFindVersions) (e : Estate AnyNode) (setup : IsSetup e.script.setup)
    (run : IsRun any_step any_start e.script e.events e.world) (few : length e.script.lines ≤ max_lines) (fit : AreFit e.script.lines) (calls : AreCalls e.script.lines)
    (alone : BeginsAlone e) (in_line : AnswersInLine e) where
  none_lost : LosesNone (works_of e.script.lines)
  none_lost = calls_lose_none e.script.lines calls

  done : AreDone e.world.acts
  done = in_line_done e.script.lines e.world.acts in_line

  text_as_one : IsAsOneMachine e
  text_as_one =
      let g =
      all_given e run calls fit few done alone (below.own e) (below.once e run) (calls_serve e calls fit below.starts below.events) (below.unlost e setup run none_lost)
      (below.undoubted e setup run none_lost).1 (finds e setup run) in
      text_is e few (below.once e run) in_line g.0
      (serves_all e.script.lines few g.0 [] e.script.lines root_alone nothing_written (answers_in e.world.acts) refl calls in_line g.1.0
      (trees e.script.lines fit few)) g.1.1

pub with_files : Below → EachScriptKeepsTheTree → EachRunsCallsFindVersions → EachRunWithFilesIsAsOneMachine
with_files below trees finds e setup run = record {
  in_line = λ few fit calls alone in_line. text_as_one below trees finds e setup run few fit calls alone in_line;
}

-- The law, from the laws below.
use Rattle.core_world.specs.AnyNode.{any_start, any_step}
use Rattle.core_world.specs.declared.any_node.AnyNode.{AnyNode}
use Rattle.headline.specs.OneMachine.{AreDone, AreOnBlocks}
use Rattle.headline.specs.Restarts.{LosesNone}
use Rattle.node_base.specs.Setups.{IsSetup}
use Rattle.run_answers.specs.act_law.Newest.{EachVersionIsNewest}
use Rattle.run_answers.specs.act_law.Runs.{EachAnswersActs}
use Rattle.run_answers.specs.due_law.Turns.{EachEventKeepsStanding, EachStartServes}
use Rattle.run_answers.specs.once_law.Runs.{EachItemIsAnsweredOnce}
use Rattle.run_answers.specs.own_law.Runs.{EachRunsClientsActForItems}
use Rattle.run_laws.specs.restart_law.Unlost.{ScriptsWithoutLossesAreUndoubted}
use Rattle.run_laws.specs.world_reads.Legal.{EveryRunWithoutLossesIsLegal}
use Rattle.world_base.specs.declared.estate.Estate.{Estate}
use Rattle.world_base.specs.Items.{works_of}
use Rattle.world_base.specs.Runs.{IsRun}
use Rattle.run_text.proofs.Events.{all_serve, loses_none}
use Rattle.run_text.proofs.Serving.{Stands, all_stands}
use Rattle.run_text.proofs.Texts.{in_line_done, text_is}
use Rattle.run_text.specs.Runs.{EachRunIsAsOneMachine}

-- what is so of every run
pub record Below : Type 0 where
  pub unlost : EveryRunWithoutLossesIsLegal
  pub undoubted : ScriptsWithoutLossesAreUndoubted
  pub once : EachItemIsAnsweredOnce
  pub acted : EachAnswersActs
  pub newest : EachVersionIsNewest
  pub starts : EachStartServes
  pub events : EachEventKeepsStanding
  pub own : EachRunsClientsActForItems

module _ (below : Below) (e : Estate AnyNode) (setup : IsSetup e.script.setup) (run : IsRun any_step any_start e.script e.events e.world)
    (on_blocks : AreOnBlocks e.script.lines) where
  none_lost : LosesNone (works_of e.script.lines)
  none_lost = loses_none e.script.lines on_blocks

  module _ (done : AreDone e.world.acts) where
    pub stands : Stands e.script.lines e.world.acts
    stands = all_stands e run on_blocks done (below.own e) (below.acted e) (below.once e run) (all_serve e on_blocks below.starts below.events)
        (below.unlost e setup run none_lost) (below.newest e setup run) (below.undoubted e setup run none_lost).1

pub each_is_as_one_machine : Below → EachRunIsAsOneMachine
each_is_as_one_machine below e setup run = record {
  served = λ on_blocks done. let s = stands below e setup run on_blocks done in (s.table, s.serves);
  in_line = λ few on_blocks in_line.
      let s = stands below e setup run on_blocks (in_line_done e.script.lines e.world.acts in_line) in
      text_is e few (below.once e run) in_line s.table s.serves s.returns;
}

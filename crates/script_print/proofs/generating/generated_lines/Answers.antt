use Rattle.script_print.proofs.Drawing.{turn_kept, few_kept}
use Rattle.script_print.proofs.generating.generated_lines.Goals as goal

pub loop-turn-preserved : goal.loop-turn-preserved
loop-turn-preserved c = record {
  lines = turn_kept c.loop-turn.lines c.add_turn.new.lines _ c.args.turns c.loop-turn.turn c.loop-turn.left c.draws_from-draws.result
      c.draws_from-draws.ensures c.loop-turn-test.true c.loop-turn.invariant.lines c.in_ok-add_turn.ensures;
  few = few_kept c.loop-turn.lines c.add_turn.new.lines c.loop-turn.turn c.draws_from-draws.result c.loop-turn.invariant.few c.in_ok-add_turn.ensures;
}

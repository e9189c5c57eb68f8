use Rattle.run_laws.proofs.world_lines.Turns as turns
use Rattle.run_laws.proofs.world_lines.lines_go_on.Goals as goal

pub returns : goal.returns
returns c = record {
  begin = turns.lines_begin;
  stay = turns.lines_stay;
  go_on = turns.lines_go_on c.logs_stay_whole.ensures.whole c.ends_are_last.ensures.last;
}

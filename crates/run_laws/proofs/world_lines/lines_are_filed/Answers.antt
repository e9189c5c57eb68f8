use Rattle.run_laws.proofs.world_lines.Lines as lines
use Rattle.run_laws.proofs.world_lines.lines_are_filed.Goals as goal

pub returns : goal.returns
returns c = record {
  filed = lines.lines_are_filed c.what_flew_is_written.ensures.written;
  texts = lines.lines_are_texts c.what_flew_is_written.ensures.written;
  give = lines.lines_give c.what_flew_is_written.ensures.written c.logs_stay_in_line.ensures.line;
}

use Rattle.log_law.proofs.Written as written
use Rattle.log_law.proofs.what_flew_is_written.Goals as goal

pub returns : goal.returns
returns c = record {
  written = written.what_flew_is_written c.below.ensures;
  next = written.what_flies_is_next c.below.ensures;
  linked = written.what_is_read_back_is_linked c.below.ensures;
}

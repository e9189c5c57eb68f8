use Rattle.log_law.proofs.ReadingDown.{openings_read_down, reopens_behind}
use Rattle.log_law.proofs.a_reopening_reads_back.Goals as goal

pub returns : goal.returns
returns c = record { down = openings_read_down c.below.ensures; behind = reopens_behind c.below.ensures }

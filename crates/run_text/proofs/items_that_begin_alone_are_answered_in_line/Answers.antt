use Rattle.run_text.proofs.AloneRuns.{alone_is_in_line}
use Rattle.run_text.proofs.items_that_begin_alone_are_answered_in_line.Goals as goal

pub returns : goal.returns
returns c = record { runs = alone_is_in_line c.items_are_answered_once.ensures.runs }

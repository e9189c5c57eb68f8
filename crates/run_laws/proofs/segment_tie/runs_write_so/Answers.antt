use Rattle.run_laws.proofs.segment_tie.Running.{runs_copy, runs_write}
use Rattle.run_laws.proofs.segment_tie.runs_write_so.Goals as goal

pub returns : goal.returns
returns c = record { originals = runs_write; copies = runs_copy }

use Rattle.journal_law.proofs.Legality.{run_said}
use Rattle.journal_law.proofs.Runs.{run_read, run_judged}
use Rattle.journal_law.proofs.runs_are_read_as_printed.Goals as goal

pub returns-clause-read : goal.returns-clause-read
returns-clause-read g c = run_read c.args.estate.now

pub returns-clause-judged : goal.returns-clause-judged
returns-clause-judged g c = run_judged c.args.estate.now

pub returns-clause-said : goal.returns-clause-said
returns-clause-said g c = run_said c.args.estate.now

use Rattle.journal_law.proofs.Fronts.{fronts_legal, one_verdict, run_legal}
use Rattle.journal_law.proofs.legal_runs_are_said_to_be.Goals as goal

pub returns-clause-whole : goal.returns-clause-whole
returns-clause-whole g c = run_legal c.args.estate.now

pub returns-clause-fronts : goal.returns-clause-fronts
returns-clause-fronts g c = fronts_legal c.args.estate.now

pub returns-clause-only : goal.returns-clause-only
returns-clause-only g c = one_verdict

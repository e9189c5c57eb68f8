use Rattle.journal_law.proofs.Journals.{journals_read, verdicts}
use Rattle.journal_law.proofs.journals_are_read_as_printed.Goals as goal

pub returns-clause-read : goal.returns-clause-read
returns-clause-read c = journals_read

pub returns-clause-judged : goal.returns-clause-judged
returns-clause-judged c = verdicts

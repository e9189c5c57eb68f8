use Rattle.journal_law.proofs.Acts.{one_line, acts_read}
use Rattle.journal_law.proofs.Others.{no_others}
use Rattle.journal_law.proofs.acts_are_read_as_printed.Goals as goal

pub returns-clause-one_line : goal.returns-clause-one_line
returns-clause-one_line c = one_line

pub returns-clause-read : goal.returns-clause-read
returns-clause-read c = acts_read

pub returns-clause-no_others : goal.returns-clause-no_others
returns-clause-no_others c = no_others

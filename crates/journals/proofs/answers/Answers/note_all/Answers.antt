use Rattle.std.proofs.Common.{◌∙◌}
use Rattle.journals.proofs.answers.Answers.note_all.Goals as goal

pub returns-clause-noted : goal.returns-clause-noted
returns-clause-noted c k = c.advance.ensures.same k ∙ c.in_ok-note_each.ensures k

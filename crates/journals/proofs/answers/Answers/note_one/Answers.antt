use Rattle.std.proofs.Common.{◌∙◌, ap, sym, ◌||◌}
use Rattle.journals.specs.Answers.{answers_advance}
use Rattle.journals.proofs.Known.{or_none}
use Rattle.journals.proofs.answers.Answers.note_one.Goals as goal

pub returns-in-None : goal.returns-in-None
returns-in-None c k =
    let old = c.args.self.now in
    sym (or_none (answers_advance old k)) ∙ ap (λ b. answers_advance old k || b) (sym (c.in-None.ensures k))

pub returns-in_ok-note-in-Some : goal.returns-in_ok-note-in-Some
returns-in_ok-note-in-Some c k = c.in_ok-note-in-Some.ensures k ∙ ap (λ b. answers_advance c.args.self.now k || b) (sym (c.in-Some.ensures k))

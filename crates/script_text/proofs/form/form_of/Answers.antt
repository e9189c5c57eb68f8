use Rattle.std.proofs.Common.{sym, ◌∙◌}
use Rattle.script_text.specs.Words.{words}
use Rattle.script_text.proofs.FormOf.{form_there, form_not_there}
use Rattle.script_text.proofs.form.form_of.Goals as goal

pub returns-in-None : goal.returns-in-None
returns-in-None c = form_not_there (words c.args.line.now) (sym c.place_of.ensures.place ∙ c.in-None.is)

pub returns-in-Some : goal.returns-in-Some
returns-in-Some c = form_there (words c.args.line.now) c.in-Some.place _ (sym c.place_of.ensures.place ∙ c.in-Some.is) c.in-Some.ensures.below

use Rattle.std.proofs.Common.{◌∙◌, ap, ◌||◌}
use Rattle.std.proofs.lemmas.List.{take_all}
use Rattle.journals.specs.Answers.{has_answer, is_answer_to, answers_advance}
use Rattle.journals.proofs.Known.{one_more}
use Rattle.journals.proofs.answers.Answers.note_each.Goals as goal

pub loop-act-preserved : goal.loop-act-preserved
loop-act-preserved c k =
    let test = c.loop-act-test.true in
    one_more c.args.node k c.loop-act.act-index c.act-item.result c.args.acts.now (answers_advance c.args.self.now k) (answers_advance c.note_one.new.self k) test c.act-item.is
    (c.in_ok-note_one.ensures k ∙ ap (λ b. b || is_answer_to c.args.node k c.act-item.result) (c.loop-act.invariant k))

pub returns : goal.returns
returns c k =
    c.loop-act.invariant k ∙ ap (λ done. answers_advance c.args.self.now k || has_answer c.args.node k done) (take_all c.loop-act.act-index c.args.acts.now c.loop-act-test.false)

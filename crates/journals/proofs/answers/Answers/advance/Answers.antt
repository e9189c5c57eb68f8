use Rattle.std.proofs.Common.{refl, ◌∙◌}
use Rattle.journals.proofs.Known.{gone_on}
use Rattle.journals.proofs.answers.Answers.advance.Goals as goal

pub loop-next-preserved : goal.loop-next-preserved
loop-next-preserved c k =
    let old = c.loop-next.self in
    gone_on old (record old { all = c.in-Some.next }) k c.in-Some.ensures.0 refl c.in-Some.ensures.1 ∙ c.loop-next.invariant k

use Rattle.std.proofs.Common.{◌≡◌, ◌++◌, subst}
use Rattle.std.specs.Vec.Iter.{into_iter_items}
use Rattle.stripe_cleaner.specs.Checks.{checks_of}
use Rattle.stripe_cleaner.proofs.Loops.{checks_more}
use Rattle.stripe_cleaner.proofs.checks.checks_of.Goals as goal

pub loop-item-preserved : goal.loop-item-preserved
loop-item-preserved c =
    let all = checks_of 0 (into_iter_items c.into_iter-item-iterator.result) in
    checks_more c.loop-item.checks c.add_check.new.checks all c.loop-item.number c.next_number-number.result c.in-Some.item
    (into_iter_items c.next.new.self) c.next_number-number.ensures c.in_ok-add_check.ensures
    (subst (λ r. c.loop-item.checks ++ checks_of c.loop-item.number r ≡ all) c.in-Some.ensures.steps.0 c.loop-item.invariant)

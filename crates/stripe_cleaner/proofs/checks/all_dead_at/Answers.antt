use Rattle.std.proofs.Common.{get_or, set, ap, ◌∙◌, arith}
use Rattle.std.proofs.lemmas.List.{get_or_default}
use Rattle.std.proofs.lemmas.List.Edits.{map_over_more}
use Rattle.stripe_cleaner.specs.declared.checks.Check.{Check}
use Rattle.stripe_cleaner.specs.Checks.{dead_at}
use Rattle.stripe_cleaner.proofs.checks.all_dead_at.Goals as goal

pub loop-check-preserved : goal.loop-check-preserved
loop-check-preserved c =
    let xs = c.loop-check.check-items in
    let i = c.loop-check.check-index in
    let check = c.check-item.result in
    let read : Check = get_or xs i check in
    ap (λ (x : Check). set xs i x) c.dead_at.ensures
    ∙ map_over_more (dead_at c.args.block) c.deref_mut-check-items.result.now xs i read (omega arith) c.loop-check.invariant (get_or_default xs i check read (omega arith))

use Rattle.std.proofs.Common.{drop}
use Rattle.std.specs.List.{AllByRecursion}
use Rattle.version_model.specs.declared.act.Fall.{Fall}
use Rattle.version_model.specs.Legal.{MayFall}
use Rattle.version_model.specs.Shown.{shown}
use Rattle.version_model.proofs.histories.Histories.may_all_fall.Given as goal
use Rattle.version_model.proofs.Each.{Agree}

-- it is left to show of the falls to come
abbrev pub invariant-loop-fall : goal.invariant-loop-fall
invariant-loop-fall l =
    Agree (AllByRecursion (λ (fall : Fall). MayFall l.client ((shown l.self).of_block fall.block) fall) (drop l.fall-index l.falls))
    (AllByRecursion (λ (fall : Fall). MayFall l.client ((shown l.self).of_block fall.block) fall) l.falls)

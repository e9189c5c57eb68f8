use Rattle.std.proofs.Common.{◌≡◌, false, drop}
use Rattle.std.specs.List.{AllByRecursion}
use Rattle.xfs_base.specs.Blocks.{same_block}
use Rattle.version_model.specs.declared.act.Fall.{Fall}
use Rattle.version_model.proofs.judge.spares.Given as goal
use Rattle.version_model.proofs.Each.{Agree}

-- it is left to show of the falls to come
abbrev pub invariant-loop-fall : goal.invariant-loop-fall
invariant-loop-fall l =
    Agree (AllByRecursion (λ (fall : Fall). same_block l.block fall.block ≡ false) (drop l.fall-index l.falls))
    (AllByRecursion (λ (fall : Fall). same_block l.block fall.block ≡ false) l.falls)

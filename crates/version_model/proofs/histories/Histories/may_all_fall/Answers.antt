use Rattle.std.proofs.Common.{ap, sym, ◌∙◌}
use Rattle.std.specs.List.{AllByRecursion}
use Rattle.std.proofs.lemmas.List.{drop_more}
use Rattle.xfs_base.proofs.Booleans.{contrary}
use Rattle.version_model.specs.declared.act.Fall.{Fall}
use Rattle.version_model.specs.Legal.{MayFall}
use Rattle.version_model.specs.Shown.{shown}
use Rattle.version_model.proofs.Each.{more, none}
use Rattle.version_model.proofs.histories.Histories.may_all_fall.Goals as goal

pub returns-then-not-may_fall : goal.returns-then-not-may_fall
returns-then-not-may_fall c = (
  contrary,
  (λ all. absurd (
      none (ap (AllByRecursion (λ (fall : Fall). MayFall c.args.client ((shown c.args.self.now).of_block fall.block) fall))
      (drop_more c.args.falls.now c.loop-fall.fall-index _ c.loop-fall-test.true))
      (λ p. contrary (sym c.if-not-may_fall.true ∙ c.may_fall.ensures.1 p)) c.loop-fall.invariant all)),
)

pub loop-fall-preserved : goal.loop-fall-preserved
loop-fall-preserved c =
    more (ap (AllByRecursion (λ (fall : Fall). MayFall c.args.client ((shown c.args.self.now).of_block fall.block) fall))
    (drop_more c.args.falls.now c.loop-fall.fall-index _ c.loop-fall-test.true))
    (c.may_fall.ensures.0 c.if-not-may_fall.false) c.loop-fall.invariant

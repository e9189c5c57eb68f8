use Rattle.std.proofs.Common.{IsTrue, sym, subst}
use Rattle.std.specs.List.{AllByRecursion}
use Rattle.version_model.specs.declared.act.Fall.{Fall}
use Rattle.version_model.specs.Legal.{IsLegalIn, MayFall, NamesNoBlockTwice}
use Rattle.version_model.specs.Shown.{shown}
use Rattle.version_model.proofs.Each.{Agree, both_pass}
use Rattle.version_model.proofs.histories.Histories.is_legal.Goals as goal

pub returns-then-names_no_block_twice : goal.returns-then-names_no_block_twice
returns-then-names_no_block_twice c =
    subst (λ a. Agree (IsTrue c.may_all_fall.result) (IsLegalIn a (shown c.args.self.now))) (sym c.in-Fell.is)
    (subst (λ xs. Agree (IsTrue c.may_all_fall.result)
    (NamesNoBlockTwice xs × AllByRecursion (λ (fall : Fall). MayFall c.in-Fell.client ((shown c.args.self.now).of_block fall.block) fall) xs))
    c.as_slice-falls.ensures
    (both_pass _ _ c.if-names_no_block_twice.true c.names_no_block_twice.ensures c.may_all_fall.ensures))

use Rattle.std.proofs.Common.{◌≡◌, [], ◌∷◌, ◌++◌, sym, subst, arith, rules}
use Rattle.std.specs.Prelude.{All, IfSome}
use Rattle.std.proofs.lemmas.Grind.{common_steps}
use Rattle.std.proofs.lemmas.List.Elements.{All-push}
use Rattle.group_rebuild.specs.Wanted.{IsWanted}
use Rattle.group_rebuild.proofs.wanted.wanted_in.Goals as goal

pub loop-meta-preserved-in-Continue-branch-3 : goal.loop-meta-preserved-in-Continue-branch-3
loop-meta-preserved-in-Continue-branch-3 c =
    let whole : IsWanted c.in-Some-2.wanted = subst (λ o. IfSome o IsWanted) c.in-Some-2.is c.in_ok-wanted.ensures.whole in
    let items : c.push_back.new.self.items ≡ c.loop-meta.all.items ++ c.in-Some-2.wanted ∷ [] = first_of (search rules, grind (arith, common_steps)) in
    record {
      whole = first_of (search rules, grind (arith, common_steps));
      each = subst (All IsWanted) (sym items) (All-push IsWanted c.loop-meta.all.items c.in-Some-2.wanted c.loop-meta.invariant.each whole);
    }

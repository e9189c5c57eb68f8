use Rattle.std.proofs.Common.{◌≡◌, ◌↔◌, map, sym, subst, arith, rules}
use Rattle.std.specs.Prelude.{◌⊎◌, Contains, IfOk}
use Rattle.std.proofs.lemmas.Grind.{common_steps}
use Rattle.std.proofs.lemmas.Result.{IfOk-weaker}
use Rattle.fragment_store.specs.Calls.{barred}
use Rattle.fragment_store.proofs.Barred.{in_order_has}
use Rattle.fragment_store.proofs.shelf.Shelf.barred.Goals as goal

pub returns-clause-just_these : goal.returns-clause-just_these
returns-clause-just_these c =
    let now = c.args.self.now in
    let exact : IfOk c.listed.result (λ names. names ≡ barred now) = first_of (search rules, grind (arith, common_steps)) in
    IfOk-weaker c.listed.result _ _
    (λ names fact name. subst (λ ns. Contains ns name ↔ (Contains now.marks name ⊎ Contains (map (λ f. f.meta.name) now.held) name)) (sym fact)
    (in_order_has now.marks (map (λ f. f.meta.name) now.held) name))
    exact

use Rattle.std.proofs.Common.{rules, ◌≡◌, ℕ, ◌+◌, List, Option, IfOk, length, sym, subst, arith}
use Rattle.std.proofs.lemmas.Grind.{common_steps}
use Rattle.std.proofs.lemmas.Result.{IfOk-weaker}
use Rattle.std.specs.Prelude.{IfSome}
use Rattle.fragment_sums.specs.Recovered.{GivesBack, recovered}
use Rattle.fragment_sums.proofs.Given.{gives_back}
use Rattle.fragment_sums.proofs.Gone.{part_at_has}
use Rattle.fragment_sums.proofs.recovery.recovered.Goals as goal

pub recover-requires-clause-first : goal.recover-requires-clause-first
recover-requires-clause-first c =
    subst (λ (p : Option (List ℕ)). IfSome p (λ f. length f ≡ c.args.part)) (sym c.part_or-first.ensures)
    (part_at_has (λ f. length f ≡ c.args.part) c.args.parts.now c.args.count c.requires.lengths)

pub recover-requires-clause-second : goal.recover-requires-clause-second
recover-requires-clause-second c =
    subst (λ (p : Option (List ℕ)). IfSome p (λ f. length f ≡ c.args.part)) (sym c.part_or-second.ensures)
    (part_at_has (λ f. length f ≡ c.args.part) c.args.parts.now (c.args.count + 1) c.requires.lengths)

pub returns-clause-gives_back : goal.returns-clause-gives_back
returns-clause-gives_back c =
    let parts = c.args.parts.now in
    let exact : IfOk c.recover.result (λ found. found ≡ recovered parts c.args.count) = first_of (search rules, grind (arith, common_steps)) in
    IfOk-weaker c.recover.result (λ found. found ≡ recovered parts c.args.count) (λ found. GivesBack c.args.part parts c.args.count found)
    (λ found fact. subst (λ fs. GivesBack c.args.part parts c.args.count fs) (sym fact) (gives_back c.args.part c.args.count parts c.requires.few)) exact

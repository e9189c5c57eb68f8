use Rattle.std.proofs.Common.{◌≡◌, ℕ, ◌-◌, ◌<◌, [], ◌∷◌, ◌++◌, length, map, take, sym, ap, ◌∙◌, arith, rules}
use Rattle.std.proofs.lemmas.Grind.{common_steps}
use Rattle.stripe_cleaner.specs.declared.counting.Fullness.{Fullness}
use Rattle.stripe_cleaner.specs.Counting.{segment_at}
use Rattle.stripe_cleaner.proofs.Loops.{first_step}
use Rattle.stripe_cleaner.proofs.counting.first_by_fullness.Goals as goal

pub loop-fullness-preserved-in-Continue-1 : goal.loop-fullness-preserved-in-Continue-1
loop-fullness-preserved-in-Continue-1 c =
    let left = c.loop-fullness.left.items in
    let e : Fullness × ℕ = (c.in-Some.fullness.now, c.in-Some.group.now) in
    let items : c.push_back.new.self.items ≡ left ++ segment_at e ∷ [] = first_of (search rules, grind (arith, common_steps)) in
    let few : length left < c.args.count = first_of (search rules, grind (arith, common_steps)) in
    let step : c.loop-fullness.fullness-iterator ≡ e ∷ c.next.new.self = first_of (search rules, grind (arith, common_steps)) in
    ap (λ xs. xs ++ map segment_at (take (c.args.count - length xs) c.next.new.self)) items
    ∙ first_step left c.args.count e c.next.new.self few
    ∙ ap (λ rest. left ++ map segment_at (take (c.args.count - length left) rest)) (sym step)
    ∙ c.loop-fullness.invariant

use Rattle.std.proofs.Common.{◌≡◌, ◌==◌, ◌++◌, ◌∷◌, [], cond, false, refl, ap, arith}
use Rattle.std.proofs.lemmas.Bool.Decides.{nat_tests}
use Rattle.client_serving.proofs.laws.the_log_goes_before_a_new_want.Goals as goal
use Rattle.client_serving.specs.Sends.{deltas, want}

pub returns-clause-new : goal.returns-clause-new
returns-clause-new c = λ s block req mode. refl

pub returns-clause-again : goal.returns-clause-again
returns-clause-again c = λ s block req again mode above.
    let repeated : (again == 0) ≡ false = grind (arith, nat_tests, above) in
    ap (λ t. cond t (deltas s block) [] ++ want s block req again mode ∷ []) repeated

use Rattle.std.proofs.Common.{◌≡◌, ◌↔◌, ◌==◌, ◌&&◌, Bool, true, false, IsTrue, List, [], ◌∷◌, length, Option, Some, None, is_none, refl, arith}
use Rattle.std.proofs.lemmas.Bool.Decides.{nat_tests}
use Rattle.client_call.proofs.blocks.is_settled.Goals as goal

-- both facts as one test
as_test : {A B : Type 0} (b : Bool) (dirty : List A) (flight : Option B) → IsTrue b ↔ ((dirty ≡ []) × (flight ≡ None))
    → b ≡ (is_none flight && (length dirty == 0))
as_test true [] None h = refl
as_test true [] (Some f) h = cc ((h.0 refl).1)
as_test true (x ∷ xs) None h = cc ((h.0 refl).0)
as_test true (x ∷ xs) (Some f) h = cc ((h.0 refl).0)
as_test false [] None h = h.1 (refl, refl)
as_test false [] (Some f) h = refl
as_test false (x ∷ xs) None h = grind (arith, nat_tests)
as_test false (x ∷ xs) (Some f) h = refl

pub returns : goal.returns
returns c = as_test c.is_settled.result c.args.log.now.dirty c.args.log.now.flight c.is_settled.ensures

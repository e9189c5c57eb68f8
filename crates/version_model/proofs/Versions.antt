-- The newest of a block's versions is the last.
use Rattle.std.proofs.Common.{◌≡◌, ℕ, zero, suc, ◌+◌, ◌-◌, List, [], ◌∷◌, length, Some, IsTrue, arith, nat_eq}
use Rattle.std.specs.Prelude.{slice_get}
use Rattle.std.proofs.lemmas.Bool.Decides.{nat_tests}
use Rattle.version_model.specs.History.{Version}
use Rattle.version_model.specs.Legal.{IsNewestBy}

abbrev pub Agree : ℕ → List Version → Version → Type 0
Agree client vs v = (IsTrue (nat_eq v.writer client) → IsNewestBy client vs) × (IsNewestBy client vs → IsTrue (nat_eq v.writer client))

same_writer : (v w : Version) → Some v ≡ Some w → v.writer ≡ w.writer
same_writer v w e = cc

at_last : (client : ℕ) (vs : List Version) (v : Version) (place : ℕ) → place + 1 ≡ length vs → slice_get vs place ≡ Some v → Agree client vs v
at_last client [] v place n e = cc
at_last client (w ∷ []) v zero n e =
    let same : w.writer ≡ v.writer = same_writer w v e in
    ((λ t. grind (arith, nat_tests)), (λ h. grind (arith, nat_tests)))
at_last client (w ∷ []) v (suc place) n e = absurd (omega (arith, n))
at_last client (u ∷ w ∷ vs) v zero n e = absurd (omega (arith, n))
at_last client (u ∷ w ∷ vs) v (suc place) n e = at_last client (w ∷ vs) v place (omega (arith, n)) e

-- the last version is by a client exactly where the newest is
pub newest_is_last : (client : ℕ) (vs : List Version) (v : Version) → slice_get vs (length vs - 1) ≡ Some v → Agree client vs v
newest_is_last client [] v e = cc
newest_is_last client (w ∷ vs) v e = at_last client (w ∷ vs) v (length (w ∷ vs) - 1) (omega arith) e

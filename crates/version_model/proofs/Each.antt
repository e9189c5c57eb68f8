-- What holds of each of some items, in a loop over them.
use Rattle.std.proofs.Common.{◌≡◌, Bool, true, IsTrue, sym, subst}

-- both hold, or neither
abbrev pub Agree : Type 0 → Type 0 → Type 0
Agree A B = (A → B) × (B → A)

cast : {A B : Type 0} → A ≡ B → A → B
cast e a = subst (λ X. X) e a

-- one item more, of which it holds
pub more : {A B C D : Type 0} → A ≡ (B × C) → B → Agree A D → Agree C D
more e b h = ((λ c. h.0 (cast (sym e) (b, c))), (λ d. (cast e (h.1 d)).1))

-- one item of which it does not hold
pub none : {A B C D : Type 0} → A ≡ (B × C) → (B → ⊥) → Agree A D → D → ⊥
none e n h d = n (cast e (h.1 d)).0

-- two tests, the first of which was passed
pub both_pass : {A B : Type 0} (t u : Bool) → t ≡ true → Agree (IsTrue t) A → Agree (IsTrue u) B → Agree (IsTrue u) (A × B)
both_pass t u e h k = ((λ p. (h.0 e, k.0 p)), (λ ab. k.1 ab.1))

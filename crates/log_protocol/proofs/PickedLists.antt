-- The rule of picking over the lists that an owner kept, as lists: what it finds is Picked, and where it finds nothing there is nothing.
use Rattle.std.proofs.Common.{◌≡◌, ℕ, zero, suc, ◌<◌, ◌≤◌, ◌==◌, if◌then◌else◌, List, [], ◌∷◌, ◌⊎◌, inl, inr, refl, sym, ap, ◌∙◌, subst, ⊎_elim, arith}
use Rattle.std.specs.Prelude.{nat_lt, Bool, true, false}
use Rattle.std.proofs.lemmas.Bool.Decides.{nat_tests}
use Rattle.log_protocol.specs.Tables.{In}
use Rattle.log_protocol.specs.Packets.{FencedPacket}
use Rattle.log_protocol.specs.State.{State}
use Rattle.log_protocol.specs.OpeningSteps.{Picked}
use Rattle.log_protocol.specs.PickRule.{add, add_all, gather, better, best, SameLists}
use Rattle.log_protocol.proofs.PickFold.{NotAbove, better_one_of, best_of_all}

module _ (seq_of : ℕ → ℕ) (low : ℕ) where
  in_add : (x y : ℕ) (rest : List ℕ) → low ≤ seq_of y → (y ≡ x) ⊎ In y rest → In y (add seq_of low x rest)
  in_add x y rest above h = go (nat_lt (seq_of x) low) refl h
    where
      go : (t : Bool) → nat_lt (seq_of x) low ≡ t → (y ≡ x) ⊎ In y rest → In y (if t then rest else x ∷ rest)
      go true e (inl k) = absurd (let m = ap seq_of k in grind (arith, nat_tests))
      go true e (inr k) = k
      go false e k = k

  out_add : (x y : ℕ) (rest : List ℕ) → In y (add seq_of low x rest) → ((y ≡ x) × (low ≤ seq_of y)) ⊎ In y rest
  out_add x y rest h = go (nat_lt (seq_of x) low) refl h
    where
      go : (t : Bool) → nat_lt (seq_of x) low ≡ t → In y (if t then rest else x ∷ rest) → ((y ≡ x) × (low ≤ seq_of y)) ⊎ In y rest
      go true e k = inr k
      go false e (inl k) = inl (k, (let m = ap seq_of k in grind (arith, nat_tests)))
      go false e (inr k) = inr k

  in_add_all : (xs rest : List ℕ) (y : ℕ) → low ≤ seq_of y → In y xs ⊎ In y rest → In y (add_all seq_of low xs rest)
  in_add_all [] rest y above (inl e) = absurd e
  in_add_all [] rest y above (inr e) = e
  in_add_all (x ∷ xs) rest y above (inl (inl e)) = in_add x y (add_all seq_of low xs rest) above (inl e)
  in_add_all (x ∷ xs) rest y above (inl (inr e)) = in_add x y (add_all seq_of low xs rest) above (inr (in_add_all xs rest y above (inl e)))
  in_add_all (x ∷ xs) rest y above (inr e) = in_add x y (add_all seq_of low xs rest) above (inr (in_add_all xs rest y above (inr e)))

  out_add_all : (xs rest : List ℕ) (y : ℕ) → In y (add_all seq_of low xs rest) → (In y xs × (low ≤ seq_of y)) ⊎ In y rest
  out_add_all [] rest y h = inr h
  out_add_all (x ∷ xs) rest y h =
      ⊎_elim (λ a. inl (inl a.0, a.1)) (λ b. ⊎_elim (λ a. inl (inr a.0, a.1)) (λ c. inr c) (out_add_all xs rest y b))
      (out_add x y (add_all seq_of low xs rest) h)

  pub in_gather : (names : ℕ → List ℕ) (n v y : ℕ) → v < n → In y (names v) → low ≤ seq_of y → In y (gather seq_of low names n)
  in_gather names zero v y known h above = absurd (omega arith)
  in_gather names (suc n) v y known h above = here (v == n) refl (λ k. in_gather names n v y k h above)
    where
      here : (t : Bool) → (v == n) ≡ t → (v < n → In y (gather seq_of low names n)) → In y (add_all seq_of low (names n) (gather seq_of low names n))
      here true e r =
          in_add_all (names n) (gather seq_of low names n) y above (inl (let k : v ≡ n = grind (arith, nat_tests) in subst (λ u. In y (names u)) k h))
      here false e r = in_add_all (names n) (gather seq_of low names n) y above (inr (r (grind (arith, nat_tests))))

  pub out_gather : (names : ℕ → List ℕ) (n y : ℕ) → In y (gather seq_of low names n) → (v : ℕ) × (v < n) × (In y (names v)) × (low ≤ seq_of y)
  out_gather names zero y h = absurd h
  out_gather names (suc n) y h =
      ⊎_elim (λ a. (n, omega arith, a.0, a.1)) (λ b. let r = out_gather names n y b in (r.0, (let k = r.1 in omega arith), r.2, r.3))
      (out_add_all (names n) (gather seq_of low names n) y h)

best_in : (s c a : ℕ → ℕ) (x : ℕ) (ys : List ℕ) → In (best s c a x ys) (x ∷ ys)
best_in s c a x [] = inl refl
best_in s c a x (y ∷ ys) =
    ⊎_elim (λ e. ⊎_elim (λ k. inl (e ∙ k)) (λ k. inr (inl (e ∙ k))) (better_one_of s c a x y)) (λ e. inr (inr e)) (best_in s c a (better s c a x y) ys)

-- where each abstract list has just the names of the kept one, the best of the gathered names is picked
pub gathered_picked : (w : State) (list_of : ℕ → FencedPacket) (names : ℕ → List ℕ) (low x : ℕ) (xs : List ℕ) → SameLists w list_of names
    → gather w.seq_of low names w.servers ≡ x ∷ xs → Picked w list_of low (best w.seq_of w.incarnation_of w.attempt_of x xs)
gathered_picked w list_of names low x xs same e =
    let g = out_gather w.seq_of low names w.servers b (subst (λ z. In b z) (sym e) (best_in w.seq_of w.incarnation_of w.attempt_of x xs)) in
    record {
      listed = (g.0, g.1, same.sent g.0 b g.1 g.2);
      above = g.3;
      newest_boot = λ v y k h above. (at v y k h above).boot;
      longest = λ v y k h above. (at v y k h above).seq;
      last_attempt = λ v y k h above. (at v y k h above).attempt;
    }
  where
    b : ℕ
    b = best w.seq_of w.incarnation_of w.attempt_of x xs

    at : (v y : ℕ) → v < w.servers → (list_of v).listed y ≡ 1 → low ≤ w.seq_of y
        → NotAbove w.seq_of w.incarnation_of w.attempt_of y (best w.seq_of w.incarnation_of w.attempt_of x xs)
    at v y k h above =
        best_of_all w.seq_of w.incarnation_of w.attempt_of x xs y
        (subst (λ z. In y z) e (in_gather w.seq_of low names w.servers v y k (same.kept v y k h) above))

-- where nothing was gathered, no list names anything at or above the horizon
pub gathered_none : (w : State) (list_of : ℕ → FencedPacket) (names : ℕ → List ℕ) (low : ℕ) → SameLists w list_of names
    → gather w.seq_of low names w.servers ≡ [] → (v y : ℕ) → v < w.servers → (list_of v).listed y ≡ 1 → w.seq_of y < low
gathered_none w list_of names low same e v y k h = below (nat_lt (w.seq_of y) low) refl
  where
    below : (t : Bool) → nat_lt (w.seq_of y) low ≡ t → w.seq_of y < low
    below true d = grind (arith, nat_tests)
    below false d = absurd (subst (λ z. In y z) e (in_gather w.seq_of low names w.servers v y k (same.kept v y k h) (grind (arith, nat_tests))))

-- Once no list is awaited, each other server has told its own.
use Rattle.std.proofs.Common.{◌≡◌, ◌<◌, ◌≤◌, ◌+◌, ◌-◌, ◌==◌, ◌&&◌, ◌||◌, not, cond, ℕ, zero, suc, Bool, true, false, nat_le, List, [], ◌∷◌, ◌++◌, flat_map, length, inl, inr, refl, sym, ap, subst, ◌∙◌, arith}
use Rattle.std.proofs.lemmas.Bool.{eqb-true, le-leb}
use Rattle.std.specs.List.{list_any, range_with_len}
use Rattle.group_rebuild.specs.RebuildState.{RebuildState}
use Rattle.group_rebuild.specs.Transition.{awaited, awaits, if_awaited}
use Rattle.token_protocol.specs.Basics.{In}
use Rattle.xfs_base.proofs.Booleans.{contrary}

-- a server among those that are heard
first_or_later : (from x : ℕ) (heard : List ℕ) → (list_any (λ w. w == from) heard ≡ true → In from heard) → (t : Bool) → (x == from) ≡ t
    → (t || list_any (λ w. w == from) heard) ≡ true → In from (x ∷ heard)
first_or_later from x heard later true same fact = inl (sym (eqb-true x from same))
first_or_later from x heard later false same fact = inr (later fact)

pub in_heard : (from : ℕ) (heard : List ℕ) → list_any (λ w. w == from) heard ≡ true → In from heard
in_heard from [] fact = contrary fact
in_heard from (x ∷ heard) fact = first_or_later from x heard (λ rest. in_heard from heard rest) (x == from) refl fact

differs : (a b : ℕ) → (a ≡ b → ⊥) → (a == b) ≡ false
differs a b apart = by (a == b) refl
  where
    by : (t : Bool) → (a == b) ≡ t → t ≡ false
    by false fact = refl
    by true fact = absurd (apart (eqb-true a b fact))

-- nothing is in either part
both_empty : (t : Bool) (x : ℕ) (rest : List ℕ) → cond t (x ∷ []) [] ++ rest ≡ [] → (t ≡ false) × (rest ≡ [])
both_empty true x rest fact = absurd cc
both_empty false x rest fact = (refl, fact)

module _ (s : RebuildState) where
  at_place : (a n from : ℕ) → ((j : ℕ) → j < n → from ≡ (a + 1) + (j + 1) → awaits s from ≡ false) → awaits s (a + 1) ≡ false → (k : ℕ) → k < suc n
      → from ≡ a + (k + 1) → awaits s from ≡ false
  at_place a n from later here zero low is = (let same : a + 1 ≡ from = omega arith in subst (λ x. awaits s x ≡ false) same here)
  at_place a n from later here (suc j) low is = later j (omega arith) (omega arith)

  none_awaited : (a n : ℕ) → flat_map (if_awaited s) (range_with_len a n) ≡ [] → (from k : ℕ) → k < n → from ≡ a + (k + 1) → awaits s from ≡ false
  none_awaited a zero none from k low is = absurd (omega arith)
  none_awaited a (suc n) none from k low is =
      let parts = both_empty (awaits s (a + 1)) (a + 1) (flat_map (if_awaited s) (range_with_len (a + 1) n)) none in
      at_place a n from (λ j below same. none_awaited (a + 1) n parts.1 from j below same) parts.0 k low is

  nothing : (xs : List ℕ) → (length xs == 0) ≡ true → xs ≡ []
  nothing [] fact = refl
  nothing (x ∷ xs) fact = (let long : suc (length xs) ≡ 0 = eqb-true (suc (length xs)) 0 fact in absurd (omega arith))

  told_by : (from : ℕ) → nat_le 1 from ≡ true → nat_le from s.groups.servers ≡ true → (from == s.server) ≡ false → awaits s from ≡ false
      → list_any (λ w. w == from) s.heard ≡ true
  told_by from one top other none = by (list_any (λ w. w == from) s.heard) refl
    where
      by : (t : Bool) → list_any (λ w. w == from) s.heard ≡ t → t ≡ true
      by true fact = refl
      by false fact = contrary (sym none ∙ waits)
        where
          waits : awaits s from ≡ true
          waits =
              ap (λ t. t && (nat_le from s.groups.servers && (not (from == s.server) && not (list_any (λ w. w == from) s.heard)))) one
              ∙ (ap (λ t. t && (not (from == s.server) && not (list_any (λ w. w == from) s.heard))) top
              ∙ (ap (λ t. not t && not (list_any (λ w. w == from) s.heard)) other ∙ ap not fact))

  pub all_told : (length (awaited s) == 0) ≡ true → (from : ℕ) → 1 ≤ from → from ≤ s.groups.servers → (from ≡ s.server → ⊥) → In from s.heard
  all_told fact from one top other =
      in_heard from s.heard
      (told_by from (le-leb 1 from one) (le-leb from s.groups.servers top) (differs from s.server other)
      (none_awaited 0 s.groups.servers (nothing (awaited s) fact) from (from - 1) (omega arith) (omega arith)))

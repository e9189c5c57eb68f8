-- Facts on prefixes, and on a function changed at one place.
use Rattle.std.proofs.Common.{ℕ, ◌≡◌, ◌<◌, ◌≤◌, ◌==◌, suc, List, [], ◌∷◌, ◌++◌, length, take, drop, true, false, if◌then◌else◌, refl, sym, ap, ◌∙◌, subst, arith, take_all, take-take, length-take-le, length-take, length-append, take-append-drop, ◌⊎◌}
use Rattle.std.proofs.lemmas.List.{take-append-le}
use Rattle.std.proofs.lemmas.Bool.Decides.{nat_tests, Decides-eqb}
use Rattle.board_protocol.specs.Basics.{put, Prefix}

-- A property of each place, after a change at one.
pub each : {X : Type 0} (f : ℕ → X) (c : ℕ) (x : X) (P : ℕ → X → Type 0) → P c x → ((d : ℕ) → (d ≡ c → ⊥) → P d (f d)) → (d : ℕ) → P d (put f c x d)
each f c x P here there d =
    elim (d == c) as (λ t. (d == c) ≡ t → P d (if t then x else f d)) [
      | true ↦ λ k. subst (λ e. P e x) (sym ((Decides-eqb d c).0 k)) here
      | false ↦ λ k. there d (λ same. grind (arith, nat_tests, same, k))
    ] refl

pub at : {X : Type 0} (f : ℕ → X) (c : ℕ) (x : X) → put f c x c ≡ x
at f c x = ap (λ t. if t then x else f c) ((Decides-eqb c c).1 refl)

pub compare : (a b : ℕ) → (a < b) ⊎ ((a ≡ b) ⊎ (b < a))
compare a b = grind arith

pub order : (a b : ℕ) → (a ≤ b) ⊎ (b ≤ a)
order a b = grind arith

-- The same of a table of two numbers, changed at one place: what is true of each entry, and that all are 0 above a place of one row.
pub each_entry : (f : ℕ → ℕ → ℕ) (k b n : ℕ) (P : ℕ → ℕ → Type 0) → P b n → ((d c : ℕ) → P c (f d c)) → (d c : ℕ) → P c (put f k (put (f k) b n) d c)
each_entry f k b n P here there =
    each f k (put (f k) b n) (λ d g. (c : ℕ) → P c (g c)) (each (f k) b n P here (λ c other. there k c)) (λ d other c. there d c)

pub above : (f : ℕ → ℕ → ℕ) (k b n : ℕ) → ((c : ℕ) → b < c → f k c ≡ 0) → (c : ℕ) → b < c → put f k (put (f k) b n) k c ≡ 0
above f k b n none c l =
    subst (λ (g : ℕ → ℕ). g c ≡ 0) (sym (at f k (put (f k) b n))) (each (f k) b n (λ d m. b < d → m ≡ 0) (λ less. absurd (omega arith)) (λ d other. none d) c l)

pub entry : (f : ℕ → ℕ → ℕ) (k b n : ℕ) → put f k (put (f k) b n) k b ≡ n
entry f k b n = ap (λ (g : ℕ → ℕ). g b) (at f k (put (f k) b n)) ∙ at (f k) b n

module _ {C : Type 0} where
  pub same : (xs : List C) → Prefix xs xs
  same xs = take_all (length xs) xs (grind arith)

  pub no_longer : (xs ys : List C) → Prefix xs ys → length xs ≤ length ys
  no_longer xs ys p = grind (arith, length-take (length xs) ys, ap length p)

  pub through : (xs ys zs : List C) → Prefix xs ys → Prefix ys zs → Prefix xs zs
  through xs ys zs p q = sym (take-take (length xs) (length ys) zs (no_longer xs ys p)) ∙ ap (take (length xs)) q ∙ p

  pub longer : (xs ys : List C) → Prefix xs (xs ++ ys)
  longer xs ys = take-append-le (length xs) xs ys (grind arith) ∙ same xs

  -- Two prefixes of one list.
  pub shorter : (xs ys zs : List C) → Prefix xs zs → Prefix ys zs → length xs ≤ length ys → Prefix xs ys
  shorter xs ys zs p q l = ap (take (length xs)) (sym q) ∙ take-take (length xs) (length ys) zs l ∙ p

  -- A part of a list is a prefix of it.
  pub part : (n : ℕ) (xs : List C) → n ≤ length xs → Prefix (take n xs) xs
  part n xs l = ap (λ m. take m xs) (length-take-le n xs l)

  pub antisymmetric : (xs ys : List C) → Prefix xs ys → length ys ≤ length xs → xs ≡ ys
  antisymmetric xs ys p l = sym p ∙ take_all (length xs) ys l

  -- What follows a prefix makes the whole.
  pub completed : (xs ys : List C) → Prefix xs ys → xs ++ drop (length xs) ys ≡ ys
  completed xs ys p = ap (λ zs. zs ++ drop (length xs) ys) (sym p) ∙ take-append-drop (length xs) ys

  -- The same length from two lists with a common beginning.
  pub agrees : (n m : ℕ) (xs ys : List C) → n ≤ m → take m xs ≡ take m ys → take n xs ≡ take n ys
  agrees n m xs ys l e = sym (take-take n m xs l) ∙ ap (take n) e ∙ take-take n m ys l

  pub pushed : (xs : List C) (c : C) → length (xs ++ (c ∷ [])) ≡ suc (length xs)
  pushed xs c = grind (arith, length-append xs (c ∷ []))

  -- The next command of a list after a prefix.
  pub next : (xs ys : List C) (n : ℕ) (c : C) → Prefix xs ys → length xs ≡ n → take (suc n) ys ≡ take n ys ++ (c ∷ []) → Prefix (xs ++ (c ∷ [])) ys
  next xs ys n c p l e = ap (λ m. take m ys) (pushed xs c) ∙ ap (λ m. take (suc m) ys) l ∙ e ∙ ap (λ zs. zs ++ (c ∷ [])) (ap (λ m. take m ys) (sym l) ∙ p)

  -- A part of a list stays, when the list grows.
  pub kept : (n : ℕ) (xs ys : List C) → Prefix xs ys → n ≤ length xs → take n ys ≡ take n xs
  kept n xs ys p l = sym (take-take n (length xs) ys l) ∙ ap (take n) p

  pub last : (xs : List C) (c : C) → take (suc (length xs)) (xs ++ (c ∷ [])) ≡ take (length xs) (xs ++ (c ∷ [])) ++ (c ∷ [])
  last xs c = ap (λ n. take n (xs ++ (c ∷ []))) (sym (pushed xs c)) ∙ same (xs ++ (c ∷ [])) ∙ ap (λ zs. zs ++ (c ∷ [])) (sym (longer xs (c ∷ [])))

  pub pushed_past : (n : ℕ) (xs : List C) (c : C) → n ≤ length xs → n ≤ length (xs ++ (c ∷ []))
  pushed_past n xs c l = grind (arith, pushed xs c)

  pub empty : (xs ys : List C) → length xs ≡ 0 → Prefix xs ys
  empty [] ys l = refl
  empty (x ∷ xs) ys l = absurd (omega arith)

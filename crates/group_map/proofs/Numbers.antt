-- Groups are numbered in order: what a look-up by id and the choice of a current one find.
use Rattle.std.proofs.Common.{◌≡◌, ℕ, zero, suc, ◌+◌, ◌<◌, ◌≤◌, true, false, cond, List, [], ◌∷◌, ◌++◌, Some, None, length, map, refl, sym, ap, ◌∙◌, subst, arith}
use Rattle.std.specs.Prelude.{◌==◌, IsTrue, IsSomeAnd, slice_get, slice_index, find, filter}
use Rattle.std.proofs.lemmas.Bool.Decides.{nat_tests}
use Rattle.group_map.specs.declared.group.Group.{Group}
use Rattle.group_map.specs.Groups.{current_ids, numbered, retired}
use Rattle.group_map.specs.Layout.{Layout}
use Rattle.group_map.specs.WellFormed.{IsNumbered}

-- the group of an id stands at its place
pub find-numbered : (k : ℕ) (gs : List Group) (i : ℕ) → IsNumbered k gs → find (λ g. g.id == (k + i)) gs ≡ slice_get gs i
find-numbered k [] i h = refl
find-numbered k (g ∷ gs) zero h =
    let here : (g.id == (k + 0)) ≡ true = grind (arith, nat_tests, h.0) in
    ap (λ b. cond b (Some g) (find (λ (x : Group). x.id == (k + 0)) gs)) here
find-numbered k (g ∷ gs) (suc i) h =
    let apart : (g.id == (k + suc i)) ≡ false = grind (arith, nat_tests, h.0) in
    let next : k + suc i ≡ (k + 1) + i = omega arith in
    ap (λ b. cond b (Some g) (find (λ (x : Group). x.id == (k + suc i)) gs)) apart
    ∙ ap (λ n. find (λ (x : Group). x.id == n) gs) next ∙ find-numbered (k + 1) gs i h.1

-- no group has an id below the first
pub find-below : (k : ℕ) (gs : List Group) (id : ℕ) → id < k → IsNumbered k gs → find (λ g. g.id == id) gs ≡ None
find-below k [] id l h = refl
find-below k (g ∷ gs) id l h =
    let apart : (g.id == id) ≡ false = grind (arith, nat_tests, h.0) in
    let below : id < k + 1 = omega arith in
    ap (λ b. cond b (Some g) (find (λ (x : Group). x.id == id) gs)) apart ∙ find-below (k + 1) gs id below h.1

-- the current ids do not begin below the first id
ids_from : (k : ℕ) (gs : List Group) (p : ℕ) → IsNumbered k gs → p < length (current_ids gs) → k ≤ slice_index (current_ids gs) p
ids_from k [] p h l = absurd (omega arith)
ids_from k (g ∷ gs) zero h l =
    elim g.current as
    (λ c. 0 < length (map (λ (x : Group). x.id) (cond c (g ∷ filter (λ (x : Group). x.current) gs) (filter (λ (x : Group). x.current) gs)))
    → k ≤ slice_index (map (λ (x : Group). x.id) (cond c (g ∷ filter (λ (x : Group). x.current) gs) (filter (λ (x : Group). x.current) gs))) 0) [
      | true ↦ λ m. omega (arith, h.0)
      | false ↦ λ m. omega (arith, ids_from (k + 1) gs 0 h.1 m)
    ] l
ids_from k (g ∷ gs) (suc p) h l =
    elim g.current as
    (λ c. suc p < length (map (λ (x : Group). x.id) (cond c (g ∷ filter (λ (x : Group). x.current) gs) (filter (λ (x : Group). x.current) gs)))
    → k ≤ slice_index (map (λ (x : Group). x.id) (cond c (g ∷ filter (λ (x : Group). x.current) gs) (filter (λ (x : Group). x.current) gs))) (suc p)) [
      | true ↦ λ m. let n : p < length (current_ids gs) = omega arith in omega (arith, ids_from (k + 1) gs p h.1 n)
      | false ↦ λ m. omega (arith, ids_from (k + 1) gs (suc p) h.1 m)
    ] l

-- a group of a lower id is passed over
passed : (g : Group) (gs : List Group) (id : ℕ) → g.id < id → IsSomeAnd (find (λ x. x.id == id) gs) (λ x. IsTrue x.current)
    → IsSomeAnd (find (λ x. x.id == id) (g ∷ gs)) (λ x. IsTrue x.current)
passed g gs id l h =
    let apart : (g.id == id) ≡ false = grind (arith, nat_tests) in
    subst (λ b. IsSomeAnd (cond b (Some g) (find (λ (x : Group). x.id == id) gs)) (λ x. IsTrue x.current)) (sym apart) h

found_here : (g : Group) (gs : List Group) → g.current ≡ true → IsSomeAnd (find (λ x. x.id == g.id) (g ∷ gs)) (λ x. IsTrue x.current)
found_here g gs e =
    let here : (g.id == g.id) ≡ true = grind (arith, nat_tests) in
    subst (λ b. IsSomeAnd (cond b (Some g) (find (λ (x : Group). x.id == g.id) gs)) (λ x. IsTrue x.current)) (sym here) e

-- each of the current ids is that of a current group
pub IsCurrent-chosen : (k : ℕ) (gs : List Group) (p : ℕ) → IsNumbered k gs → p < length (current_ids gs)
    → IsSomeAnd (find (λ g. g.id == slice_index (current_ids gs) p) gs) (λ g. IsTrue g.current)
IsCurrent-chosen k [] p h l = absurd (omega arith)
IsCurrent-chosen k (g ∷ gs) zero h l =
    elim g.current as
    (λ c. g.current ≡ c → 0 < length (map (λ (x : Group). x.id) (cond c (g ∷ filter (λ (x : Group). x.current) gs) (filter (λ (x : Group). x.current) gs)))
    → IsSomeAnd (find
    (λ x. x.id == slice_index (map (λ (x : Group). x.id) (cond c (g ∷ filter (λ (x : Group). x.current) gs) (filter (λ (x : Group). x.current) gs))) 0)
    (g ∷ gs)) (λ x. IsTrue x.current)) [
      | true ↦ λ e m. found_here g gs e
      | false ↦ λ e m. passed g gs (slice_index (current_ids gs) 0) (omega (arith, h.0, ids_from (k + 1) gs 0 h.1 m)) (IsCurrent-chosen (k + 1) gs 0 h.1 m)
    ] refl l
IsCurrent-chosen k (g ∷ gs) (suc p) h l =
    elim g.current as
    (λ c. suc p < length (map (λ (x : Group). x.id) (cond c (g ∷ filter (λ (x : Group). x.current) gs) (filter (λ (x : Group). x.current) gs)))
    → IsSomeAnd (find
    (λ x. x.id == slice_index (map (λ (x : Group). x.id) (cond c (g ∷ filter (λ (x : Group). x.current) gs) (filter (λ (x : Group). x.current) gs))) (suc p))
    (g ∷ gs)) (λ x. IsTrue x.current)) [
      | true ↦ λ m. let n : p < length (current_ids gs) =
          omega arith in passed g gs (slice_index (current_ids gs) p) (omega (arith, h.0, ids_from (k + 1) gs p h.1 n)) (IsCurrent-chosen (k + 1) gs p h.1 n)
      | false ↦ λ m. passed g gs (slice_index (current_ids gs) (suc p)) (omega (arith, h.0, ids_from (k + 1) gs (suc p) h.1 m))
          (IsCurrent-chosen (k + 1) gs (suc p) h.1 m)
    ] l

pub IsNumbered-retired : (server k : ℕ) (gs : List Group) → IsNumbered k gs → IsNumbered k (map (retired server) gs)
IsNumbered-retired server k [] h = tt
IsNumbered-retired server k (g ∷ gs) h = (h.0, IsNumbered-retired server (k + 1) gs h.1)

pub IsNumbered-append : (k : ℕ) (xs ys : List Group) → IsNumbered k xs → IsNumbered (k + length xs) ys → IsNumbered k (xs ++ ys)
IsNumbered-append k [] ys h i = let e : k + 0 ≡ k = omega arith in subst (λ n. IsNumbered n ys) e i
IsNumbered-append k (x ∷ xs) ys h i =
    let e : k + suc (length xs) ≡ (k + 1) + length xs = omega arith in
    (h.0, IsNumbered-append (k + 1) xs ys h.1 (subst (λ n. IsNumbered n ys) e i))

pub IsNumbered-numbered : (k : ℕ) (ls : List Layout) → IsNumbered k (numbered k ls)
IsNumbered-numbered k [] = tt
IsNumbered-numbered k (l ∷ ls) = (refl, IsNumbered-numbered (k + 1) ls)

pub length-numbered : (k : ℕ) (ls : List Layout) → length (numbered k ls) ≡ length ls
length-numbered k [] = refl
length-numbered k (l ∷ ls) = ap suc (length-numbered (k + 1) ls)

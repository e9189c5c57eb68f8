-- Lines one after the other, from place to place.
use Rattle.std.proofs.Common.{◌≡◌, ℕ, zero, suc, ◌+◌, ◌≤◌, true, false, List, [], ◌∷◌, ◌++◌, length, refl, sym, ◌∙◌, ap, subst, arith, inl, inr}
use Rattle.std.specs.List.{repeat, AllByRecursion}
use Rattle.xfs_base.specs.Limits.{max_bytes, max_lines}
use Rattle.script_text.specs.declared.stage.Place.{Place}
use Rattle.script_text.specs.Lines.{lines}
use Rattle.script_text.specs.Words.{Lacks}
use Rattle.script_text.specs.Script.{Leads, IsPast, Accepts, line_at, is_whole}
use Rattle.script_text.proofs.Lines.{lines_cut}
use Rattle.script_print.specs.Printing.{ended}

-- these lines, of which the first has this number, are good from one place to the other
abbrev pub Goes : ℕ → List (List ℕ) → Place → Place → Type 0
Goes n [] p q = p ≡ q
Goes n (l ∷ ls) p q = (r : Place) × Leads n l p r × Goes (n + 1) ls r q

pub goes_on : (n m : ℕ) (ls ms : List (List ℕ)) (p q r : Place) → m ≡ n + length ls → Goes n ls p q → Goes m ms q r → Goes n (ls ++ ms) p r
goes_on n m [] ms p q r e g h =
    let P : Place → Type 0 = λ x. Goes n ms x r in
    let Q : ℕ → Type 0 = λ x. Goes x ms q r in
    let f : m ≡ n = omega (arith, e) in
    subst P (sym g) (subst Q f h)
goes_on n m (l ∷ ls) ms p q r e g h = (g.0, g.1, goes_on (n + 1) m ls ms g.0 q r (omega (arith, e)) g.2 h)

-- so many empty lines
abbrev pub empties : ℕ → List (List ℕ)
empties k = repeat k ([] ∷ [])

pub empty_lines : (n k : ℕ) (p : Place) → Goes n (empties k) p p
empty_lines n zero p = refl
empty_lines n (suc k) p = (p, inl (refl, refl), empty_lines (n + 1) k p)

pub accepts : (total n at : ℕ) (ls : List (List ℕ)) (p q : Place) → total ≤ max_bytes → n + length ls ≤ max_lines + 1 → Goes n ls p q → is_whole q.stage ≡ true
    → Accepts false (line_at total n at) ls p (record { setup = q.setup; lines = q.items })
accepts total n at [] p q t m g w =
    let P : Place → Type 0 = λ x. Accepts false (line_at total n at) [] x (record { setup = q.setup; lines = q.items }) in
    subst P (sym g) (w, refl, refl)
accepts total n at (l ∷ ls) p q t m g w =
    ((λ x. not_past x), g.0, g.1, accepts total (n + 1) (at + (length l + 1)) ls g.0 q t (omega (arith, m)) g.2 w)
  where
    not_past : IsPast (record { total = total; number = n; end = at + (length l + 1) }) → ⊥
    not_past (inl x) = omega (arith, x, m)
    not_past (inr x) = omega (arith, x.0, t)

-- the lines of lines that are ended
pub ended_lines : (ls : List (List ℕ)) (rest : List ℕ) → AllByRecursion (λ l. Lacks 10 l) ls → lines (ended ls ++ rest) ≡ ls ++ lines rest
ended_lines [] rest a = refl
ended_lines (l ∷ ls) rest a = cut (ended_lines ls rest a.1)
  where
    cut : lines (ended ls ++ rest) ≡ ls ++ lines rest → lines ((l ++ 10 ∷ ended ls) ++ rest) ≡ l ∷ (ls ++ lines rest)
    cut e = ap lines (assoc l) ∙ lines_cut l (ended ls ++ rest) a.0 ∙ ap (λ x. l ∷ x) e
      where
        assoc : (xs : List ℕ) → (xs ++ 10 ∷ ended ls) ++ rest ≡ xs ++ 10 ∷ (ended ls ++ rest)
        assoc [] = refl
        assoc (x ∷ xs) = ap (λ y. x ∷ y) (assoc xs)

pub empty_ended : (k : ℕ) → repeat k (10 ∷ []) ≡ ended (empties k)
empty_ended zero = refl
empty_ended (suc k) = ap (λ x. 10 ∷ x) (empty_ended k)

pub ended_join : (xs ys : List (List ℕ)) → ended (xs ++ ys) ≡ ended xs ++ ended ys
ended_join [] ys = refl
ended_join (x ∷ xs) ys = assoc x (ended_join xs ys)
  where
    assoc : (w : List ℕ) → ended (xs ++ ys) ≡ ended xs ++ ended ys → w ++ 10 ∷ ended (xs ++ ys) ≡ (w ++ 10 ∷ ended xs) ++ ended ys
    assoc [] e = ap (λ y. 10 ∷ y) e
    assoc (b ∷ w) e = ap (λ y. b ∷ y) (assoc w e)

pub length_empty : (k : ℕ) → length (empties k) ≡ k
length_empty zero = refl
length_empty (suc k) = let e = length_empty k in omega (arith, e)

pub empty_lack : (k : ℕ) → AllByRecursion (λ l. Lacks 10 l) (empties k)
empty_lack zero = tt
empty_lack (suc k) = (tt, empty_lack k)

pub all_both : (P : List ℕ → Type 0) (xs ys : List (List ℕ)) → AllByRecursion P xs → AllByRecursion P ys → AllByRecursion P (xs ++ ys)
all_both P [] ys a b = b
all_both P (x ∷ xs) ys a b = (a.0, all_both P xs ys a.1 b)

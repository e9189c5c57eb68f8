-- The pieces come back, whatever is missing, where no more is missing than the parity makes good.
use Rattle.std.proofs.Common.{◌≡◌, ℕ, ◌+◌, ◌≤◌, zero, suc, List, [], ◌∷◌, ◌++◌, Option, Some, None, length, map, take, drop, length-take, refl, sym, ◌∙◌, ap, ap₂, subst, arith}
use Rattle.std.proofs.lemmas.List.{length-replicate, length-map}
use Rattle.std.proofs.lemmas.List.Elements.{All-head, All-tail}
use Rattle.std.specs.Prelude.{All, IfSome}
use Rattle.parity_kernel.specs.Bytewise.{times}
use Rattle.fragment_sums.specs.Sums.{IsBytes, zeros, plain, weighted, sum_onto, with_parity}
use Rattle.fragment_sums.specs.Recovered.{AreOf, GivesBack, missing_from, part_at, rest_onto, both_of, recovered_at, recovered, filled}
use Rattle.fragment_sums.proofs.Gone.{gone_from, missing-gone, filled-gone, gone_has, Rises, gone_rises, sum_gone, rest_is_gone, plain_keeps, weighted_keeps, from_second, from_both}
use Rattle.fragment_sums.proofs.Xor.{onto_zeros}

-- ---- a stripe of which parts are there, taken apart

pub front_of : (ds qs : List (List ℕ)) (ps : List (Option (List ℕ))) → AreOf ps (ds ++ qs) → AreOf (take (length ds) ps) ds
front_of [] qs ps are = tt
front_of (d ∷ ds) qs [] are = elim are [ ]
front_of (d ∷ ds) qs (p ∷ ps) are = (are.0, front_of ds qs ps are.1)

pub back_of : (ds qs : List (List ℕ)) (ps : List (Option (List ℕ))) → AreOf ps (ds ++ qs) → AreOf (drop (length ds) ps) qs
back_of [] qs ps are = are
back_of (d ∷ ds) qs [] are = elim are [ ]
back_of (d ∷ ds) qs (p ∷ ps) are = back_of ds qs ps are.1

part_at-drop : (n i : ℕ) (ps : List (Option (List ℕ))) → part_at (drop n ps) i ≡ part_at ps (n + i)
part_at-drop zero i ps = ap (part_at ps) (let e : i ≡ 0 + i = omega arith in e)
part_at-drop (suc n) i [] = refl
part_at-drop (suc n) i (p ∷ ps) = part_at-drop n i ps ∙ ap (part_at (p ∷ ps)) (let e : suc (n + i) ≡ suc n + i = omega arith in e)

-- how many are missing
nones : List (Option (List ℕ)) → ℕ
nones [] = 0
nones (None ∷ ps) = suc (nones ps)
nones (Some f ∷ ps) = nones ps

length-missing : (i : ℕ) (ps : List (Option (List ℕ))) → length (missing_from i ps) ≡ nones ps
unfolding nones
length-missing i [] = refl
length-missing i (None ∷ ps) = ap suc (length-missing (i + 1) ps)
length-missing i (Some f ∷ ps) = length-missing (i + 1) ps

nones-split : (n : ℕ) (ps : List (Option (List ℕ))) → nones ps ≡ nones (take n ps) + nones (drop n ps)
unfolding nones
nones-split zero ps = omega arith
nones-split (suc n) [] = refl
nones-split (suc n) (None ∷ ps) = let e = nones-split n ps in omega arith
nones-split (suc n) (Some f ∷ ps) = nones-split n ps

-- ---- enough is there

is_none_count : Option (List ℕ) → ℕ
is_none_count None = 1
is_none_count (Some f) = 0

-- of the parity fragments, as many as pieces are missing
abbrev pub Suffices : ℕ → Option (List ℕ) → Option (List ℕ) → Type 0
Suffices zero p q = Unit {0}
Suffices (suc zero) None None = ⊥
Suffices (suc zero) None (Some g) = Unit {0}
Suffices (suc zero) (Some f) q = Unit {0}
Suffices (suc (suc zero)) None q = ⊥
Suffices (suc (suc zero)) (Some f) None = ⊥
Suffices (suc (suc zero)) (Some f) (Some g) = Unit {0}
Suffices (suc (suc (suc n))) p q = ⊥

suffices_two : (n : ℕ) (p q : Option (List ℕ)) → n + is_none_count p + is_none_count q ≤ 2 → Suffices n p q
unfolding is_none_count
suffices_two zero p q few = tt
suffices_two (suc zero) None None few = absurd (omega arith)
suffices_two (suc zero) None (Some g) few = tt
suffices_two (suc zero) (Some f) q few = tt
suffices_two (suc (suc zero)) None None few = absurd (omega arith)
suffices_two (suc (suc zero)) None (Some g) few = absurd (omega arith)
suffices_two (suc (suc zero)) (Some f) None few = absurd (omega arith)
suffices_two (suc (suc zero)) (Some f) (Some g) few = tt
suffices_two (suc (suc (suc n))) p q few = absurd (omega arith)

suffices_one : (n : ℕ) (p : Option (List ℕ)) → n + is_none_count p ≤ 1 → Suffices n p None
unfolding is_none_count
suffices_one zero p few = tt
suffices_one (suc zero) None few = absurd (omega arith)
suffices_one (suc zero) (Some f) few = tt
suffices_one (suc (suc n)) p few = absurd (omega arith)

-- ---- the pieces are found

module _ (part : ℕ) (known : List (Option (List ℕ))) (ds : List (List ℕ)) (are : AreOf known ds) (long : All (λ f. length f ≡ part) ds) where
  plain_left : rest_onto plain 0 (sum_onto plain 0 (zeros part) ds) known ≡ sum_gone plain (zeros part) (gone_from 0 known ds)
  plain_left = rest_is_gone plain plain_keeps part 0 (zeros part) known ds are (length-replicate part 0) long

  weighted_left : rest_onto weighted 0 (sum_onto weighted 0 (zeros part) ds) known ≡ sum_gone weighted (zeros part) (gone_from 0 known ds)
  weighted_left = rest_is_gone weighted weighted_keeps part 0 (zeros part) known ds are (length-replicate part 0) long

  by_sum : (p : Option (List ℕ)) (adds : ℕ → List ℕ → List ℕ) (sum : List ℕ) → rest_onto adds 0 sum known ≡ sum_gone adds (zeros part) (gone_from 0 known ds)
      → IfSome p (λ f. f ≡ sum) → IfSome p (λ f. rest_onto adds 0 f known ≡ sum_gone adds (zeros part) (gone_from 0 known ds))
  by_sum None adds sum left fact = fact
  by_sum (Some f) adds sum left fact = ap (λ (u : List ℕ). rest_onto adds 0 u known) fact ∙ left

  -- what is found at each number of missing ones, where the sums are what these added
  found_at : (gs : List (ℕ × List ℕ)) (p q : Option (List ℕ)) → Suffices (length gs) p q → Rises 0 8 gs
      → All (λ g. length g.1 ≡ part) gs → All (λ g. IsBytes g.1) gs
      → IfSome p (λ f. rest_onto plain 0 f known ≡ sum_gone plain (zeros part) gs)
      → IfSome q (λ f. rest_onto weighted 0 f known ≡ sum_gone weighted (zeros part) gs)
      → recovered_at (map (λ g. g.0) gs) known p q ≡ map (λ g. g.1) gs
  found_at [] p q enough rises wide bytes first second = refl
  found_at (g ∷ []) None None enough rises wide bytes first second = elim enough [ ]
  found_at (g ∷ []) None (Some b) enough rises wide bytes first second =
      let here = All-head (λ (h : ℕ × List ℕ). length h.1 ≡ part) g [] wide in
      let fit = All-head (λ (h : ℕ × List ℕ). IsBytes h.1) g [] bytes in
      ap (λ (f : List ℕ). f ∷ []) (ap (times _) second ∙ from_second part g.0 g.1 (omega arith) here fit)
  found_at (g ∷ []) (Some a) q enough rises wide bytes first second =
      ap (λ (f : List ℕ). f ∷ []) (first ∙ onto_zeros part g.1 (All-head (λ (h : ℕ × List ℕ). length h.1 ≡ part) g [] wide))
  found_at (g ∷ h ∷ []) None q enough rises wide bytes first second = elim enough [ ]
  found_at (g ∷ h ∷ []) (Some a) None enough rises wide bytes first second = elim enough [ ]
  found_at (g ∷ h ∷ []) (Some a) (Some b) enough rises wide bytes first second =
      let here = All-head (λ (h : ℕ × List ℕ). length h.1 ≡ part) g (h ∷ []) wide in
      let next = All-head (λ (h : ℕ × List ℕ). length h.1 ≡ part) h [] (All-tail (λ (h : ℕ × List ℕ). length h.1 ≡ part) g (h ∷ []) wide) in
      let fit = All-head (λ (h : ℕ × List ℕ). IsBytes h.1) g (h ∷ []) bytes in
      ap₂ (both_of g.0 h.0) first second ∙ from_both part g.0 h.0 g.1 h.1 (omega arith) (omega arith) here next fit
  found_at (g ∷ h ∷ k ∷ gs) p q enough rises wide bytes first second = elim enough [ ]

  pub found : (p q : Option (List ℕ)) → length known ≤ 8 → All IsBytes ds → Suffices (length (missing_from 0 known)) p q
      → IfSome p (λ f. f ≡ sum_onto plain 0 (zeros part) ds) → IfSome q (λ f. f ≡ sum_onto weighted 0 (zeros part) ds)
      → filled known (recovered_at (missing_from 0 known) known p q) ≡ ds
  found p q few bytes enough first second =
      let gs = gone_from 0 known ds in
      let places = missing-gone 0 known ds are in
      let many : length (missing_from 0 known) ≡ length gs = ap (λ (ns : List ℕ). length ns) places ∙ length-map gs (λ g. g.0) in
      let all : recovered_at (map (λ g. g.0) gs) known p q ≡ map (λ g. g.1) gs =
      found_at gs p q (subst (λ (n : ℕ). Suffices n p q) many enough) (gone_rises 0 8 known ds (omega arith))
      (gone_has (λ f. length f ≡ part) 0 known ds long) (gone_has IsBytes 0 known ds bytes) (by_sum p plain (sum_onto plain 0 (zeros part) ds) plain_left first)
      (by_sum q weighted (sum_onto weighted 0 (zeros part) ds) weighted_left second) in
      ap (λ (ns : List ℕ). filled known (recovered_at ns known p q)) places ∙ ap (filled known) all ∙ filled-gone 0 known ds are

-- ---- the whole

-- what is there of the parity fragments
two_there : (ps : List (Option (List ℕ))) (a b : List ℕ) → AreOf ps (a ∷ b ∷ [])
    → IfSome (part_at ps 0) (λ f. f ≡ a) × IfSome (part_at ps 1) (λ f. f ≡ b) × (nones ps ≡ is_none_count (part_at ps 0) + is_none_count (part_at ps 1))
unfolding nones is_none_count
two_there [] a b are = elim are [ ]
two_there (p ∷ []) a b are = elim are.1 [ ]
two_there (None ∷ None ∷ []) a b are = (are.0, are.1.0, refl)
two_there (None ∷ Some g ∷ []) a b are = (are.0, are.1.0, refl)
two_there (Some f ∷ None ∷ []) a b are = (are.0, are.1.0, refl)
two_there (Some f ∷ Some g ∷ []) a b are = (are.0, are.1.0, refl)
two_there (p ∷ q ∷ r ∷ ps) a b are = elim are.1.1 [ ]

one_there : (ps : List (Option (List ℕ))) (a : List ℕ) → AreOf ps (a ∷ [])
    → IfSome (part_at ps 0) (λ f. f ≡ a) × (part_at ps 1 ≡ None) × (nones ps ≡ is_none_count (part_at ps 0))
unfolding nones is_none_count
one_there [] a are = elim are [ ]
one_there (None ∷ []) a are = (are.0, refl, refl)
one_there (Some f ∷ []) a are = (are.0, refl, refl)
one_there (p ∷ q ∷ ps) a are = elim are.1 [ ]

module _ (part : ℕ) (ps : List (Option (List ℕ))) (ds : List (List ℕ)) (few : length ds ≤ 8) (long : All (λ f. length f ≡ part) ds) (fit : All IsBytes ds) where
  -- what is said of any parity: the pieces are found where enough is there
  whole : (qs : List (List ℕ)) → AreOf ps (ds ++ qs)
      → Suffices (length (missing_from 0 (take (length ds) ps))) (part_at ps (length ds)) (part_at ps (length ds + 1))
      → IfSome (part_at ps (length ds)) (λ f. f ≡ sum_onto plain 0 (zeros part) ds)
      → IfSome (part_at ps (length ds + 1)) (λ f. f ≡ sum_onto weighted 0 (zeros part) ds)
      → filled (take (length ds) ps) (recovered ps (length ds)) ≡ ds
  whole qs are enough first second =
      let within : length (take (length ds) ps) ≤ 8 = omega (arith, length-take (length ds) ps) in
      found part (take (length ds) ps) ds (front_of ds qs ps are) long (part_at ps (length ds)) (part_at ps (length ds + 1)) within fit enough first second

  at_first : part_at (drop (length ds) ps) 0 ≡ part_at ps (length ds)
  at_first = part_at-drop (length ds) 0 ps ∙ ap (part_at ps) (let e : length ds + 0 ≡ length ds = omega arith in e)

  pub pieces_back : (parity : ℕ) → 1 ≤ parity → parity ≤ 2 → AreOf ps (with_parity parity part ds) → length (missing_from 0 ps) ≤ parity
      → filled (take (length ds) ps) (recovered ps (length ds)) ≡ ds
  unfolding is_none_count
  pieces_back zero some limit are few = absurd (omega arith)
  pieces_back (suc zero) some limit are few =
      let count = length ds in
      let there = one_there (drop count ps) _ (back_of ds _ ps are) in
      let none : part_at ps (count + 1) ≡ None = sym (part_at-drop count 1 ps) ∙ there.1 in
      let first = subst (λ (p : Option (List ℕ)). IfSome p (λ f. f ≡ sum_onto plain 0 (zeros part) ds)) at_first there.0 in
      let split : length (missing_from 0 ps) ≡ length (missing_from 0 (take count ps)) + is_none_count (part_at ps count) =
      length-missing 0 ps ∙ nones-split count ps
      ∙ ap₂ (λ (a b : ℕ). a + b) (sym (length-missing 0 (take count ps))) (there.2 ∙ ap is_none_count at_first) in
      let enough = suffices_one (length (missing_from 0 (take count ps))) (part_at ps count) (omega arith) in
      whole _ are (subst (λ (q : Option (List ℕ)). Suffices (length (missing_from 0 (take count ps))) (part_at ps count) q) (sym none) enough) first
      (subst (λ (q : Option (List ℕ)). IfSome q (λ f. f ≡ sum_onto weighted 0 (zeros part) ds)) (sym none) tt)
  pieces_back (suc (suc zero)) some limit are few =
      let count = length ds in
      let there = two_there (drop count ps) _ _ (back_of ds _ ps are) in
      let next : part_at (drop count ps) 1 ≡ part_at ps (count + 1) = part_at-drop count 1 ps in
      let first = subst (λ (p : Option (List ℕ)). IfSome p (λ f. f ≡ sum_onto plain 0 (zeros part) ds)) at_first there.0 in
      let second = subst (λ (p : Option (List ℕ)). IfSome p (λ f. f ≡ sum_onto weighted 0 (zeros part) ds)) next there.1 in
      let split : length (missing_from 0 ps) ≡ length (missing_from 0 (take count ps)) +
      (is_none_count (part_at ps count) + is_none_count (part_at ps (count + 1))) =
      length-missing 0 ps ∙ nones-split count ps
      ∙ ap₂ (λ (a b : ℕ). a + b) (sym (length-missing 0 (take count ps)))
      (there.2 ∙ ap₂ (λ (a b : ℕ). a + b) (ap is_none_count at_first) (ap is_none_count next)) in
      let enough = suffices_two (length (missing_from 0 (take count ps))) (part_at ps count) (part_at ps (count + 1)) (omega arith) in
      whole _ are enough first second
  pieces_back (suc (suc (suc n))) some limit are few = absurd (omega arith)

pub gives_back : (part count : ℕ) (parts : List (Option (List ℕ))) → count ≤ 8 → GivesBack part parts count (recovered parts count)
gives_back part count parts few parity ds some limit many long bytes are missing =
    subst (λ (n : ℕ). filled (take n parts) (recovered parts n) ≡ ds) many (pieces_back part parts ds (omega arith) long bytes parity some limit are missing)

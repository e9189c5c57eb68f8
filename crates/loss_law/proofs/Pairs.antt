-- The pairs that were Missing in a round, and in the one before too.
use Rattle.std.proofs.Common.{◌≡◌, ℕ, ◌==◌, ◌||◌, Bool, true, false, cond, List, [], ◌∷◌, ◌++◌, filter, refl, sym, subst, arith}
use Rattle.std.specs.List.{list_any}
use Rattle.std.proofs.lemmas.Bool.{or_parts}
use Rattle.std.proofs.lemmas.Bool.Decides.{nat_tests}
use Rattle.segment_reading.specs.Lost.{same_pair}
use Rattle.xfs_base.proofs.Booleans.{contrary, and_first, and_second}
use Rattle.stripe_code.specs.declared.round.Answer.{Answer}
use Rattle.stripe_code.specs.declared.round.Told.{Told}
use Rattle.stripe_code.specs.declared.round.Told.TheVariants.{Held, Missing}
use Rattle.stripe_code.specs.Round.{has_answered, missing_told, missing_in}
use Rattle.loss_law.proofs.Counting.{is_in, Apart, Each, Among}

-- ---- answers

-- no server answered twice
abbrev pub Single : List Answer → Type 0
Single [] = Unit {0}
Single (a ∷ rest) = (has_answered rest a.server ≡ false) × Single rest

-- each is of a server that is asked
abbrev pub AllAsked : List ℕ → List Answer → Type 0
AllAsked servers [] = Unit {0}
AllAsked servers (a ∷ rest) = (list_any (λ s. s == a.server) servers ≡ true) × AllAsked servers rest

-- what is told of Missing is so
abbrev pub ToldSo : (ℕ → ℕ → Type 0) → ℕ → Told → Type 0
ToldSo P v (Held f) = Unit {0}
ToldSo P v (Missing generation) = P v generation

abbrev pub AllSo : (ℕ → ℕ → Type 0) → List Answer → Type 0
AllSo P [] = Unit {0}
AllSo P (a ∷ rest) = ToldSo P a.server a.told × AllSo P rest

both_false : (a b : Bool) → a ≡ false → b ≡ false → (a || b) ≡ false
both_false false b e f = f
both_false true b e f = contrary (sym e)

-- ---- one answer more

none_more : (xs : List Answer) (a : Answer) (v : ℕ) → has_answered xs v ≡ false → (a.server == v) ≡ false → has_answered (xs ++ a ∷ []) v ≡ false
none_more [] a v none other = both_false (a.server == v) false other refl
none_more (x ∷ xs) a v none other = let p =
    or_parts (x.server == v) (has_answered xs v) none in both_false (x.server == v) (has_answered (xs ++ a ∷ []) v) p.0 (none_more xs a v p.1 other)

other_way : (a b : ℕ) → (a == b) ≡ false → (b == a) ≡ false
other_way a b e = grind (arith, nat_tests)

pub single_more : (xs : List Answer) (a : Answer) → Single xs → has_answered xs a.server ≡ false → Single (xs ++ a ∷ [])
single_more [] a single none = (refl, tt)
single_more (x ∷ xs) a single none = let p =
    or_parts (x.server == a.server) (has_answered xs a.server) none in
    (none_more xs a x.server single.0 (other_way x.server a.server p.0), single_more xs a single.1 p.1)

pub asked_more : (servers : List ℕ) (xs : List Answer) (a : Answer) → AllAsked servers xs → list_any (λ s. s == a.server) servers ≡ true
    → AllAsked servers (xs ++ a ∷ [])
asked_more servers [] a all fact = (fact, tt)
asked_more servers (x ∷ xs) a all fact = (all.0, asked_more servers xs a all.1 fact)

pub so_more : (P : ℕ → ℕ → Type 0) (xs : List Answer) (a : Answer) → AllSo P xs → ToldSo P a.server a.told → AllSo P (xs ++ a ∷ [])
so_more P [] a all fact = (fact, tt)
so_more P (x ∷ xs) a all fact = (all.0, so_more P xs a all.1 fact)

pub so_on : (P Q : ℕ → ℕ → Type 0) → ((v generation : ℕ) → P v generation → Q v generation) → (xs : List Answer) → AllSo P xs → AllSo Q xs
so_on P Q up [] all = tt
so_on P Q up (x ∷ xs) all = (by x.told all.0, so_on P Q up xs all.1)
  where
    by : (t : Told) → ToldSo P x.server t → ToldSo Q x.server t
    by (Held f) fact = tt
    by (Missing generation) fact = up x.server generation fact

-- ---- the pairs of a round

fresh : (xs : List Answer) (v : ℕ) → has_answered xs v ≡ false → is_in v (missing_in xs) ≡ false
fresh [] v none = refl
fresh (x ∷ xs) v none = let p = or_parts (x.server == v) (has_answered xs v) none in by (fresh xs v p.1) p.0 x.told
  where
    by : is_in v (missing_in xs) ≡ false → (x.server == v) ≡ false → (t : Told) → is_in v (missing_told x.server t (missing_in xs)) ≡ false
    by rest other (Held f) = rest
    by rest other (Missing generation) = both_false (x.server == v) (is_in v (missing_in xs)) other rest

pub apart_missing : (xs : List Answer) → Single xs → Apart (missing_in xs)
apart_missing [] single = tt
apart_missing (x ∷ xs) single = by (apart_missing xs single.1) x.told
  where
    by : Apart (missing_in xs) → (t : Told) → Apart (missing_told x.server t (missing_in xs))
    by rest (Held f) = rest
    by rest (Missing generation) = (fresh xs x.server single.0, rest)

pub each_missing : (P : ℕ → ℕ → Type 0) (xs : List Answer) → AllSo P xs → Each (λ p. P p.0 p.1) (missing_in xs)
each_missing P [] all = tt
each_missing P (x ∷ xs) all = by (each_missing P xs all.1) x.told all.0
  where
    by : Each (λ p. P p.0 p.1) (missing_in xs) → (t : Told) → ToldSo P x.server t → Each (λ p. P p.0 p.1) (missing_told x.server t (missing_in xs))
    by rest (Held f) fact = rest
    by rest (Missing generation) fact = (fact, rest)

pub among_missing : (servers : List ℕ) (xs : List Answer) → AllAsked servers xs → Each (Among servers) (missing_in xs)
among_missing servers [] all = tt
among_missing servers (x ∷ xs) all = by (among_missing servers xs all.1) x.told
  where
    by : Each (Among servers) (missing_in xs) → (t : Told) → Each (Among servers) (missing_told x.server t (missing_in xs))
    by rest (Held f) = rest
    by rest (Missing generation) = (all.0, rest)

-- ---- some of the pairs

pub each_on : (P Q : (ℕ × ℕ) → Type 0) → ((p : ℕ × ℕ) → P p → Q p) → (ps : List (ℕ × ℕ)) → Each P ps → Each Q ps
each_on P Q up [] all = tt
each_on P Q up (p ∷ ps) all = (up p all.0, each_on P Q up ps all.1)

pub each_both : (P Q R : (ℕ × ℕ) → Type 0) → ((p : ℕ × ℕ) → P p → Q p → R p) → (ps : List (ℕ × ℕ)) → Each P ps → Each Q ps → Each R ps
each_both P Q R up [] all too = tt
each_both P Q R up (p ∷ ps) all too = (up p all.0 too.0, each_both P Q R up ps all.1 too.1)

pub each_filter : (P : (ℕ × ℕ) → Type 0) (f : (ℕ × ℕ) → Bool) (ps : List (ℕ × ℕ)) → Each P ps → Each P (filter f ps)
each_filter P f [] all = tt
each_filter P f (p ∷ ps) all = by (each_filter P f ps all.1) (f p)
  where
    by : Each P (filter f ps) → (t : Bool) → Each P (cond t (p ∷ filter f ps) (filter f ps))
    by rest true = (all.0, rest)
    by rest false = rest

pub each_passes : (f : (ℕ × ℕ) → Bool) (ps : List (ℕ × ℕ)) → Each (λ p. f p ≡ true) (filter f ps)
each_passes f [] = tt
each_passes f (p ∷ ps) = by (each_passes f ps) (f p) refl
  where
    by : Each (λ q. f q ≡ true) (filter f ps) → (t : Bool) → f p ≡ t → Each (λ q. f q ≡ true) (cond t (p ∷ filter f ps) (filter f ps))
    by rest true e = (e, rest)
    by rest false e = rest

out_still : (f : (ℕ × ℕ) → Bool) (v : ℕ) (ps : List (ℕ × ℕ)) → is_in v ps ≡ false → is_in v (filter f ps) ≡ false
out_still f v [] none = refl
out_still f v (p ∷ ps) none = let k = or_parts (p.0 == v) (is_in v ps) none in by (out_still f v ps k.1) k.0 (f p)
  where
    by : is_in v (filter f ps) ≡ false → (p.0 == v) ≡ false → (t : Bool) → is_in v (cond t (p ∷ filter f ps) (filter f ps)) ≡ false
    by rest other true = both_false (p.0 == v) (is_in v (filter f ps)) other rest
    by rest other false = rest

pub apart_filter : (f : (ℕ × ℕ) → Bool) (ps : List (ℕ × ℕ)) → Apart ps → Apart (filter f ps)
apart_filter f [] apart = tt
apart_filter f (p ∷ ps) apart = by (apart_filter f ps apart.1) (f p)
  where
    by : Apart (filter f ps) → (t : Bool) → Apart (cond t (p ∷ filter f ps) (filter f ps))
    by rest true = (out_still f p.0 ps apart.0, rest)
    by rest false = rest

same_number : (a b : ℕ) → (a == b) ≡ true → b ≡ a
same_number a b e = grind (arith, nat_tests)

-- what is true of the pairs before is true of one that was among them
pub found_before : (P : ℕ → ℕ → Type 0) (p : ℕ × ℕ) (before : List (ℕ × ℕ)) → Each (λ q. P q.0 q.1) before → list_any (same_pair p) before ≡ true → P p.0 p.1
found_before P p [] all fact = contrary fact
found_before P p (q ∷ qs) all fact = by (found_before P p qs all.1) (same_pair p q) refl fact
  where
    by : (list_any (same_pair p) qs ≡ true → P p.0 p.1) → (t : Bool) → same_pair p q ≡ t → (t || list_any (same_pair p) qs) ≡ true → P p.0 p.1
    by further true e rest =
        subst (λ v. P v p.1) (same_number p.0 q.0 (and_first (p.0 == q.0) (p.1 == q.1) e))
        (subst (P q.0) (same_number p.1 q.1 (and_second (p.0 == q.0) (p.1 == q.1) e)) all.0)
    by further false e rest = further rest

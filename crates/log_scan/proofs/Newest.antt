-- The newest of what is listed: a search that keeps the best so far, and takes another only where it is newer, finds it. And none is newer.
use Rattle.std.proofs.Common.{◌≡◌, Bool, true, false, cond, ◌||◌, not, List, [], ◌∷◌, ◌++◌, Some, None, refl, sym, ap, ◌∙◌}
use Rattle.std.specs.Prelude.{option_to_list}
use Rattle.std.specs.List.{list_any, find}
use Rattle.std.specs.Ordering.{is_gt, ordering_reverse}
use Rattle.std.specs.declared.cmp.Ordering.{Ordering}
use Rattle.std.specs.declared.cmp.Ordering.TheVariants.{Less, Equal, Greater}
use Rattle.std.specs.Cmp.{IsTotalOrder}
use Rattle.std.proofs.lemmas.Bool.{or_parts, or_from, or_right}
use Rattle.std.proofs.lemmas.Cmp.{on_total, then_total, nat_cmp_total, upto, tied_itself}
use Rattle.xfs_base.specs.declared.fragment.FragMeta.{FragMeta}
use Rattle.log_scan.specs.Pick.{age_cmp, is_newer, newest}

-- ---- the order

pub age_cmp_total : IsTotalOrder age_cmp
age_cmp_total =
    then_total (on_total (λ (m : FragMeta). m.name.pass.inc) nat_cmp_total)
    (then_total (on_total (λ (m : FragMeta). m.name.seq) nat_cmp_total) (on_total (λ (m : FragMeta). m.name.pass.att) nat_cmp_total))

pub not_newer_itself : (a : FragMeta) → is_newer a a ≡ false
not_newer_itself a = ap is_gt (tied_itself age_cmp_total a)

turned : (o : Ordering) → is_gt o ≡ true → is_gt (ordering_reverse o) ≡ false
turned Less h = sym h
turned Equal h = refl
turned Greater h = refl

not_newer_back : (a b : FragMeta) → is_newer a b ≡ true → is_newer b a ≡ false
not_newer_back a b h = ap is_gt (age_cmp_total.antisymm b a) ∙ turned (age_cmp a b) h

pub not_newer_through : (a b c : FragMeta) → is_newer a b ≡ false → is_newer b c ≡ false → is_newer a c ≡ false
not_newer_through a b c h k = upto age_cmp_total a b c h k

-- ---- tests over lists

find_same : {X : Type 0} (p q : X → Bool) → ((x : X) → p x ≡ q x) → (xs : List X) → find p xs ≡ find q xs
find_same p q same [] = refl
find_same p q same (x ∷ xs) = ap (λ t. cond t (Some x) (find p xs)) (same x) ∙ ap (cond (q x) (Some x)) (find_same p q same xs)

none_too : {X : Type 0} (p q : X → Bool) → ((x : X) → p x ≡ false → q x ≡ false) → (xs : List X) → list_any p xs ≡ false → list_any q xs ≡ false
none_too p q less [] h = refl
none_too p q less (x ∷ xs) h = let both = or_parts (p x) (list_any p xs) h in or_from (q x) (list_any q xs) (less x both.0) (none_too p q less xs both.1)

-- ---- the search

-- the best so far, and what comes
abbrev search : FragMeta → List FragMeta → FragMeta
search b [] = b
search b (m ∷ ms) = search (cond (is_newer m b) m b) ms

-- whether one of these is newer
abbrev any_newer : List FragMeta → FragMeta → Bool
any_newer ms x = list_any (λ other. is_newer other x) ms

-- one that is no newer than another takes nothing away from the tests
first_idle : (b m x : FragMeta) (rest : Bool) → is_newer b m ≡ false → (is_newer b x || (is_newer m x || rest)) ≡ (is_newer m x || rest)
first_idle b m x rest h = by_second (is_newer m x) refl
  where
    by_second : (t : Bool) → is_newer m x ≡ t → (is_newer b x || (t || rest)) ≡ (t || rest)
    by_second true e = or_right (is_newer b x) true refl
    by_second false e = ap (λ s. s || rest) (not_newer_through b m x h e)

second_idle : (b m x : FragMeta) (rest : Bool) → is_newer m b ≡ false → (is_newer b x || (is_newer m x || rest)) ≡ (is_newer b x || rest)
second_idle b m x rest h = by_first (is_newer b x) refl
  where
    by_first : (t : Bool) → is_newer b x ≡ t → (t || (is_newer m x || rest)) ≡ (t || rest)
    by_first true e = refl
    by_first false e = ap (λ s. s || rest) (not_newer_through m b x h e)

-- the second is newer: the first is passed over
newer_second : (b m : FragMeta) (ms : List FragMeta) → is_newer m b ≡ true → newest (b ∷ m ∷ ms) ≡ newest (m ∷ ms)
newer_second b m ms h =
    ap (λ t. cond (not (is_newer b b || (t || any_newer ms b))) (Some b) (find (λ x. not (any_newer (b ∷ m ∷ ms) x)) (m ∷ ms))) h
    ∙ ap (λ t. cond (not t) (Some b) (find (λ x. not (any_newer (b ∷ m ∷ ms) x)) (m ∷ ms))) (or_right (is_newer b b) true refl)
    ∙ find_same (λ x. not (any_newer (b ∷ m ∷ ms) x)) (λ x. not (any_newer (m ∷ ms) x)) (λ x. ap not (first_idle b m x (any_newer ms x) (not_newer_back m b h)))
    (m ∷ ms)

-- the second is no newer: it is passed over
module _ (b m : FragMeta) (ms : List FragMeta) (h : is_newer m b ≡ false) where
  -- whether it is newer than the first decides
  decided : (t : Bool) → any_newer ms b ≡ t
      → cond (not t) (Some b) (find (λ x. not (any_newer (b ∷ m ∷ ms) x)) (m ∷ ms)) ≡ cond (not t) (Some b) (find (λ x. not (any_newer (b ∷ ms) x)) ms)
  decided false e = refl
  decided true e = ap (λ s. cond (not s) (Some m) (find (λ x. not (any_newer (b ∷ m ∷ ms) x)) ms)) passed
      ∙ find_same (λ x. not (any_newer (b ∷ m ∷ ms) x)) (λ x. not (any_newer (b ∷ ms) x)) (λ x. ap not (second_idle b m x (any_newer ms x) h)) ms
    where
      -- what is newer than the first is newer than the second
      some : (t : Bool) → any_newer ms m ≡ t → t ≡ true
      some true k = refl
      some false k = sym (none_too (λ other. is_newer other m) (λ other. is_newer other b) (λ other l. not_newer_through other m b l h) ms k) ∙ e

      passed : any_newer (b ∷ m ∷ ms) m ≡ true
      passed = ap (λ t. is_newer b m || (is_newer m m || t)) (some (any_newer ms m) refl)
          ∙ or_right (is_newer b m) (is_newer m m || true) (or_right (is_newer m m) true refl)

  older_second : newest (b ∷ m ∷ ms) ≡ newest (b ∷ ms)
  older_second =
      ap (λ t. cond (not t) (Some b) (find (λ x. not (any_newer (b ∷ m ∷ ms) x)) (m ∷ ms)))
      (second_idle b m b (any_newer ms b) h ∙ ap (λ t. t || any_newer ms b) (not_newer_itself b))
      ∙ decided (any_newer ms b) refl
      ∙ sym (ap (λ t. cond (not (t || any_newer ms b)) (Some b) (find (λ x. not (any_newer (b ∷ ms) x)) ms)) (not_newer_itself b))

-- what the search finds is the newest
pub search_is : (b : FragMeta) (ms : List FragMeta) → Some (search b ms) ≡ newest (b ∷ ms)
search_is b [] = sym (ap (λ t. cond (not (t || false)) (Some b) None) (not_newer_itself b))
search_is b (m ∷ ms) = by (is_newer m b) refl (search_is m ms) (search_is b ms)
  where
    by : (t : Bool) → is_newer m b ≡ t → Some (search m ms) ≡ newest (m ∷ ms) → Some (search b ms) ≡ newest (b ∷ ms)
        → Some (search (cond t m b) ms) ≡ newest (b ∷ m ∷ ms)
    by true e second first = second ∙ sym (newer_second b m ms e)
    by false e second first = first ∙ sym (older_second b m ms e)

-- ---- over a list in two parts

search_append : (b : FragMeta) (xs ys : List FragMeta) → search b (xs ++ ys) ≡ search (search b xs) ys
search_append b [] ys = refl
search_append b (x ∷ xs) ys = search_append (cond (is_newer x b) x b) xs ys

-- the newest of a list is that of the newest of its front and of what comes
pub newest_append : (xs ys : List FragMeta) → newest (option_to_list (newest xs) ++ ys) ≡ newest (xs ++ ys)
newest_append [] ys = refl
newest_append (b ∷ xs) ys =
    ap (λ o. newest (option_to_list o ++ ys)) (sym (search_is b xs))
    ∙ sym (search_is (search b xs) ys)
    ∙ ap Some (sym (search_append b xs ys))
    ∙ search_is b (xs ++ ys)

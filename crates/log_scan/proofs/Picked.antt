-- The newest of what is listed counts, and of all that counts, in any list, none is newer.
use Rattle.std.proofs.Common.{◌≡◌, ℕ, Bool, true, false, cond, ◌||◌, not, List, [], ◌∷◌, ◌++◌, Some, inl, inr, refl, sym, ap, subst, ◌∙◌}
use Rattle.std.specs.Prelude.{Contains, filter, nat_le}
use Rattle.std.specs.List.{list_any, find}
use Rattle.std.specs.Ordering.{nat_cmp, is_gt, ordering_then}
use Rattle.std.specs.declared.cmp.Ordering.{Ordering}
use Rattle.std.specs.declared.cmp.Ordering.TheVariants.{Less, Equal, Greater}
use Rattle.std.proofs.lemmas.Bool.{or_parts, not-true, le-leb, cond-true}
use Rattle.std.proofs.lemmas.Cmp.{nat_cmp_total, tied_itself}
use Rattle.std.proofs.lemmas.Map.Keys.{le_from_not_gt}
use Rattle.xfs_base.specs.declared.fragment.FragMeta.{FragMeta}
use Rattle.xfs_base.proofs.Booleans.{contrary}
use Rattle.xfs_base.proofs.Members.{contains_nothing, contains_first, contains_rest, contains_cases}
use Rattle.log_scan.specs.declared.listing.Listing.{Listing}
use Rattle.log_scan.specs.Linked.{IsNoNewer, IsPicked}
use Rattle.log_scan.specs.Pick.{above, counting, is_newer, newest}

-- ---- what a search finds, and what no item passes

record Finds {X : Type 0} (p : X → Bool) (xs : List X) (x : X) : Type 0 where
  among : Contains xs x
  passes : p x ≡ true

found : {X : Type 0} (p : X → Bool) (xs : List X) (x : X) → find p xs ≡ Some x → Finds p xs x
found p [] x h = absurd cc
found p (y ∷ ys) x h = by (p y) refl h (λ k. found p ys x k)
  where
    by : (t : Bool) → p y ≡ t → cond t (Some y) (find p ys) ≡ Some x → (find p ys ≡ Some x → Finds p ys x) → Finds p (y ∷ ys) x
    by true e k rest = let same : y ≡ x = cc in subst (Finds p (y ∷ ys)) same (record { among = contains_first y ys; passes = e })
    by false e k rest = record { among = contains_rest y x ys (rest k).among; passes = (rest k).passes }

fails_filtered : {X : Type 0} (q p : X → Bool) (xs : List X) (x : X) → list_any q (filter p xs) ≡ false → Contains xs x → p x ≡ true → q x ≡ false
fails_filtered q p [] x none has pass = absurd (contains_nothing x has)
fails_filtered q p (y ∷ ys) x none has pass = elim (contains_cases y x ys has) [ inl e ↦ here e | inr k ↦ fails_filtered q p ys x (rest (p y) none) k pass ]
  where
    rest : (t : Bool) → list_any q (cond t (y ∷ filter p ys) (filter p ys)) ≡ false → list_any q (filter p ys) ≡ false
    rest true h = (or_parts (q y) (list_any q (filter p ys)) h).1
    rest false h = h

    here : y ≡ x → q x ≡ false
    here e =
        let passes : p y ≡ true = ap p e ∙ pass in
        let all : list_any q (y ∷ filter p ys) ≡ false = sym (ap (list_any q) (cond-true (p y) (y ∷ filter p ys) (filter p ys) passes)) ∙ none in
        ap q (sym e) ∙ (or_parts (q y) (list_any q (filter p ys)) all).0

record InBoth {X : Type 0} (q : X → Bool) (xs ys : List X) : Type 0 where
  front : list_any q xs ≡ false
  back : list_any q ys ≡ false

in_both : {X : Type 0} (q : X → Bool) (xs ys : List X) → list_any q (xs ++ ys) ≡ false → InBoth q xs ys
in_both q [] ys none = record { front = refl; back = none }
in_both q (x ∷ xs) ys none =
    let first = or_parts (q x) (list_any q (xs ++ ys)) none in
    let rest = in_both q xs ys first.1 in
    record { front = ap (λ t. t || list_any q xs) first.0 ∙ rest.front; back = rest.back }

-- no list has one that counts and passes the test
fails_in_list : (q : FragMeta → Bool) (low : ℕ) (lists : List Listing) (l : Listing) → list_any q (counting low lists) ≡ false → Contains lists l
    → list_any q (above low l.held) ≡ false
fails_in_list q low [] l none has = absurd (contains_nothing l has)
fails_in_list q low (k ∷ ks) l none has =
    let both = in_both q (above low k.held) (counting low ks) none in
    elim (contains_cases k l ks has) [
      | inl e ↦ ap (λ (z : Listing). list_any q (above low z.held)) (sym e) ∙ both.front
      | inr rest ↦ fails_in_list q low ks l both.back rest
    ]

-- ---- the order in numbers

record ThenParts (o p : Ordering) : Type 0 where
  first : is_gt o ≡ false
  second : o ≡ Equal → is_gt p ≡ false

then_parts : (o p : Ordering) → is_gt (ordering_then o p) ≡ false → ThenParts o p
then_parts Less p h = record { first = refl; second = λ e. absurd cc }
then_parts Equal p h = record { first = refl; second = λ e. h }
then_parts Greater p h = contrary (sym h)

tied : (a b : ℕ) → a ≡ b → nat_cmp a b ≡ Equal
tied a b e = ap (nat_cmp a) (sym e) ∙ tied_itself nat_cmp_total a

no_newer_in_numbers : (a b : FragMeta) → is_newer a b ≡ false → IsNoNewer a.name b.name
no_newer_in_numbers a b h =
    let numbers = nat_cmp a.name.seq b.name.seq in
    let attempts = nat_cmp a.name.pass.att b.name.pass.att in
    let one = then_parts (nat_cmp a.name.pass.inc b.name.pass.inc) (ordering_then numbers attempts) h in
    record {
      incarnation = le_from_not_gt a.name.pass.inc b.name.pass.inc one.first;
      number = λ e. le_from_not_gt a.name.seq b.name.seq (then_parts numbers attempts (one.second (tied a.name.pass.inc b.name.pass.inc e))).first;
      attempt = λ e f.
          le_from_not_gt a.name.pass.att b.name.pass.att
          ((then_parts numbers attempts (one.second (tied a.name.pass.inc b.name.pass.inc e))).second (tied a.name.seq b.name.seq f));
    }

-- ---- the law

pub picked_is : (low : ℕ) (lists : List Listing) (picked : FragMeta) → newest (counting low lists) ≡ Some picked → IsPicked low lists picked
picked_is low lists picked h =
    let all = counting low lists in
    let it = found (λ m. not (list_any (λ other. is_newer other m) all)) all picked h in
    let none : list_any (λ other. is_newer other picked) all ≡ false = not-true (list_any (λ other. is_newer other picked) all) it.passes in
    record {
      counts = it.among;
      first = λ l m has held counts.
          no_newer_in_numbers m picked
          (fails_filtered (λ other. is_newer other picked) (λ m. nat_le low m.name.seq) l.held m
          (fails_in_list (λ other. is_newer other picked) low lists l none has) held (le-leb low m.name.seq counts));
    }

-- The least of what is left.
use Rattle.std.proofs.Common.{◌≡◌, refl, sym, ap, subst, ◌∙◌, ℕ, zero, suc, ◌+◌, ◌<◌, ◌≤◌, Bool, true, false, cond, List, [], ◌∷◌, ◌++◌, length, Option, Some, None, ◌⊎◌, inl, inr, arith, nat_lt, append_assoc, append-nil, length-append}
use Rattle.std.specs.Prelude.{slice_get, slice_set}
use Rattle.std.proofs.lemmas.Bool.Decides.{nat_tests}
use Rattle.std.proofs.lemmas.Option.{slice_get_within, same_Some}
use Rattle.journals.specs.declared.moment.Moment.{Moment}
use Rattle.journals.specs.Merging.{AllEmpty, IsLeast, IsNext, better, head_clock, heads_of, least_from, least_of}
use Rattle.journals.proofs.Gets.{get_end, get_front, get_snoc}

-- this place and clock are those of the least
pub record Chosen (rests : List (List Moment)) (b : ℕ × ℕ) : Type 0 where
  pub head : Moment
  pub tail : List Moment
  pub at : slice_get rests b.0 ≡ Some (head ∷ tail)
  pub clock : b.1 ≡ head.clock
  pub least : IsLeast rests b.0 head.clock

abbrev pub BestOf : List (List Moment) → Option (ℕ × ℕ) → Type 0
BestOf rests None = AllEmpty rests
BestOf rests (Some b) = Chosen rests b

with_empty : (seen : List (List Moment)) (best : Option (ℕ × ℕ)) → BestOf seen best → BestOf (seen ++ [] ∷ []) best
with_empty seen None none =
    λ q h t got. elim (get_snoc seen [] (h ∷ t) q got) [
      | inl there ↦ none q h t there
      | inr end ↦ let e : [] ≡ h ∷ t = end.1 in cc
    ]
with_empty seen (Some b) c = record {
  head = c.head;
  tail = c.tail;
  at = get_front seen [] (c.head ∷ c.tail) b.0 c.at;
  clock = c.clock;
  least = λ q h t got. elim (get_snoc seen [] (h ∷ t) q got) [
    | inl there ↦ c.least q h t there
    | inr end ↦ let e : [] ≡ h ∷ t = end.1 in absurd (cc)
  ];
}

same_head : (m h : Moment) (ms t : List Moment) → m ∷ ms ≡ h ∷ t → m ≡ h
same_head m h ms t e = cc

with_first : (seen : List (List Moment)) (m : Moment) (ms : List Moment) → AllEmpty seen → Chosen (seen ++ (m ∷ ms) ∷ []) (length seen, m.clock)
with_first seen m ms none = record {
  head = m;
  tail = ms;
  at = get_end seen (m ∷ ms) (length seen) refl;
  clock = refl;
  least = λ q h t got. elim (get_snoc seen (m ∷ ms) (h ∷ t) q got) [
    | inl there ↦ absurd (none q h t there)
    | inr end ↦ let e = end.0 in inr (ap (λ (x : Moment). x.clock) (same_head m h ms t end.1), omega arith)
  ];
}

with_other : (seen : List (List Moment)) (m : Moment) (ms : List Moment) (b : ℕ × ℕ) → Chosen seen b → (less : Bool) → nat_lt m.clock b.1 ≡ less
    → BestOf (seen ++ (m ∷ ms) ∷ []) (cond less (Some (length seen, m.clock)) (Some b))
with_other seen m ms b c true is =
    let before : m.clock < c.head.clock = let e = c.clock in grind (arith, nat_tests) in
    record {
      head = m;
      tail = ms;
      at = get_end seen (m ∷ ms) (length seen) refl;
      clock = refl;
      least = λ q h t got. elim (get_snoc seen (m ∷ ms) (h ∷ t) q got) [
        | inl there ↦
            inl (elim (c.least q h t there) [
              | inl less ↦ omega arith
              | inr same ↦ let e = same.0 in omega arith
            ])
        | inr end ↦ let e = end.0 in inr (ap (λ (x : Moment). x.clock) (same_head m h ms t end.1), omega arith)
      ];
    }
with_other seen m ms b c false is =
    let behind : c.head.clock ≤ m.clock = let e = c.clock in grind (arith, nat_tests) in
    let within : b.0 < length seen = slice_get_within seen b.0 (c.head ∷ c.tail) c.at in
    record {
      head = c.head;
      tail = c.tail;
      at = get_front seen (m ∷ ms) (c.head ∷ c.tail) b.0 c.at;
      clock = c.clock;
      least = λ q h t got. elim (get_snoc seen (m ∷ ms) (h ∷ t) q got) [
        | inl there ↦ c.least q h t there
        | inr end ↦
            let same : m.clock ≡ h.clock = ap (λ (x : Moment). x.clock) (same_head m h ms t end.1) in
            let e = end.0 in
            elim (nat_lt c.head.clock h.clock) as (λ less. nat_lt c.head.clock h.clock ≡ less → (c.head.clock < h.clock) ⊎ ((c.head.clock ≡ h.clock) × (b.0 ≤ q))) [
              | true ↦ λ less. inl (grind (arith, nat_tests))
              | false ↦ λ not. let le : h.clock ≤ c.head.clock = grind (arith, nat_tests) in inr (omega arith, omega arith)
            ] refl
      ];
    }

one_more : (seen : List (List Moment)) (r : List Moment) (best : Option (ℕ × ℕ)) → BestOf seen best → BestOf (seen ++ r ∷ []) (better best (length seen) (head_clock r))
one_more seen [] best b = with_empty seen best b
one_more seen (m ∷ ms) None none = with_first seen m ms none
one_more seen (m ∷ ms) (Some b) c = with_other seen m ms b c (nat_lt m.clock b.1) refl

best_of : (rests seen : List (List Moment)) (best : Option (ℕ × ℕ)) (n : ℕ) → n ≡ length seen → BestOf seen best → BestOf (seen ++ rests) (least_from best n (heads_of rests))
best_of [] seen best n is b = subst (λ all. BestOf all best) (sym (append-nil seen)) b
best_of (r ∷ rests) seen best n is b =
    let more : BestOf (seen ++ r ∷ []) (better best n (head_clock r)) = subst (λ k. BestOf (seen ++ r ∷ []) (better best k (head_clock r))) (sym is) (one_more seen r best b) in
    subst (λ all. BestOf all (least_from (better best n (head_clock r)) (n + 1) (heads_of rests))) (append_assoc seen (r ∷ []) rests)
    (best_of rests (seen ++ r ∷ []) (better best n (head_clock r)) (n + 1) (omega (arith, length-append seen (r ∷ []))) more)

none_yet : AllEmpty []
none_yet q h t got = cc

pub least_is : (rests : List (List Moment)) → BestOf rests (least_of rests)
least_is rests = best_of rests [] None 0 refl none_yet

pub none_left : (rests : List (List Moment)) (o : Option (ℕ × ℕ)) → o ≡ least_of rests → o ≡ None → AllEmpty rests
none_left rests o is none = subst (λ b. BestOf rests b) (sym is ∙ none) (least_is rests)

pub chosen_of : (rests : List (List Moment)) (o : Option (ℕ × ℕ)) (b : ℕ × ℕ) → o ≡ least_of rests → o ≡ Some b → Chosen rests b
chosen_of rests o b is some = subst (λ x. BestOf rests x) (sym is ∙ some) (least_is rests)

-- after one rest more was read from, its clock alone is another
pub heads_set : (rests : List (List Moment)) (p : ℕ) (r : List Moment) → heads_of (slice_set rests p r) ≡ slice_set (heads_of rests) p (head_clock r)
heads_set [] p r = refl
heads_set (x ∷ rests) zero r = refl
heads_set (x ∷ rests) (suc p) r = ap (λ heads. head_clock x ∷ heads) (heads_set rests p r)

pub heads_count : (rests : List (List Moment)) → length (heads_of rests) ≡ length rests
heads_count [] = refl
heads_count (r ∷ rests) = ap suc (heads_count rests)

same_first : (m h : Moment) (ms t : List Moment) → m ∷ ms ≡ h ∷ t → h ≡ m
same_first m h ms t e = cc

-- what was taken at that place came next
pub next_taken : (rests new : List (List Moment)) (p k : ℕ) (m : Moment) (tail : List Moment) → Chosen rests (p, k) → slice_get rests p ≡ Some (m ∷ tail) → new ≡ slice_set rests p tail
    → IsNext rests new p m
next_taken rests new p k m tail b rest is =
    let head : b.head ≡ m = same_first m b.head tail b.tail (same_Some (m ∷ tail) (b.head ∷ b.tail) (sym rest ∙ b.at)) in
    record { tail = tail; at = rest; least = subst (λ (h : Moment). IsLeast rests p h.clock) head b.least; left = is }

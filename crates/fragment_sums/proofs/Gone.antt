-- From the fragments that are there to the pieces of the text, for whatever is missing.
use Rattle.std.proofs.Common.{◌≡◌, ℕ, ◌+◌, ◌^◌, ◌<◌, ◌≤◌, zero, suc, List, [], ◌∷◌, Option, Some, None, get_or, length, map, inl, inr, refl, sym, ◌∙◌, ap, ap₂, arith, le_trans, le_refl}
use Rattle.std.proofs.lemmas.List.Elements.{All-nil, All-cons, All-head, All-tail}
use Rattle.std.proofs.lemmas.Bool.{cases_lt}
use Rattle.std.proofs.lemmas.Nat.{pow_pos, pow_below, xor_lt}
use Rattle.parity_kernel.proofs.Bytes.{xor_undone}
use Rattle.std.specs.Int.Bits.{bit_xor}
use Rattle.std.specs.Prelude.{All, IfSome}
use Rattle.parity_kernel.specs.Bytewise.{xor_of, times}
use Rattle.parity_kernel.specs.Field.{inverse_of}
use Rattle.fragment_sums.specs.Sums.{IsBytes, zeros, plain, weighted, sum_onto}
use Rattle.fragment_sums.specs.Recovered.{AreOf, AreRising, missing_from, part_at, rest_onto, lower_of, both_of, filled}
use Rattle.fragment_sums.proofs.Xor.{comm, assoc, swap, cancel, onto_zeros, length-xor, length-times, times_sum, times_by_sum, times_back}

-- what is missing: its place, and what stood there
abbrev pub gone_from : ℕ → List (Option (List ℕ)) → List (List ℕ) → List (ℕ × List ℕ)
gone_from i [] ds = []
gone_from i (p ∷ ps) [] = []
gone_from i (None ∷ ps) (d ∷ ds) = (i, d) ∷ gone_from (i + 1) ps ds
gone_from i (Some f ∷ ps) (d ∷ ds) = gone_from (i + 1) ps ds

pub missing-gone : (i : ℕ) (ps : List (Option (List ℕ))) (ds : List (List ℕ)) → AreOf ps ds → missing_from i ps ≡ map (λ g. g.0) (gone_from i ps ds)
missing-gone i [] [] are = refl
missing-gone i [] (d ∷ ds) are = elim are [ ]
missing-gone i (p ∷ ps) [] are = elim are [ ]
missing-gone i (None ∷ ps) (d ∷ ds) are = ap (λ (places : List ℕ). i ∷ places) (missing-gone (i + 1) ps ds are.1)
missing-gone i (Some f ∷ ps) (d ∷ ds) are = missing-gone (i + 1) ps ds are.1

pub filled-gone : (i : ℕ) (ps : List (Option (List ℕ))) (ds : List (List ℕ)) → AreOf ps ds → filled ps (map (λ g. g.1) (gone_from i ps ds)) ≡ ds
filled-gone i [] [] are = refl
filled-gone i [] (d ∷ ds) are = elim are [ ]
filled-gone i (p ∷ ps) [] are = elim are [ ]
filled-gone i (None ∷ ps) (d ∷ ds) are = ap (λ (fs : List (List ℕ)). d ∷ fs) (filled-gone (i + 1) ps ds are.1)
filled-gone i (Some f ∷ ps) (d ∷ ds) are = ap₂ (λ (g : List ℕ) (gs : List (List ℕ)). g ∷ gs) are.0 (filled-gone (i + 1) ps ds are.1)

-- what is missing is of the pieces
pub gone_has : (P : List ℕ → Type 0) (i : ℕ) (ps : List (Option (List ℕ))) (ds : List (List ℕ)) → All P ds → All (λ g. P g.1) (gone_from i ps ds)
gone_has P i [] ds all = All-nil (λ (g : ℕ × List ℕ). P g.1)
gone_has P i (p ∷ ps) [] all = All-nil (λ (g : ℕ × List ℕ). P g.1)
gone_has P i (None ∷ ps) (d ∷ ds) all =
    All-cons (λ (g : ℕ × List ℕ). P g.1) (i, d) (gone_from (i + 1) ps ds) (All-head P d ds all) (gone_has P (i + 1) ps ds (All-tail P d ds all))
gone_has P i (Some f ∷ ps) (d ∷ ds) all = gone_has P (i + 1) ps ds (All-tail P d ds all)

-- places that rise, from one on and below another
abbrev pub Rises : ℕ → ℕ → List (ℕ × List ℕ) → Type 0
Rises low high [] = Unit {0}
Rises low high (g ∷ gs) = (low ≤ g.0) × (g.0 < high) × Rises (g.0 + 1) high gs

rises_lower : (low less high : ℕ) (gs : List (ℕ × List ℕ)) → less ≤ low → Rises low high gs → Rises less high gs
rises_lower low less high [] le r = tt
rises_lower low less high (g ∷ gs) le r = (le_trans le r.0, r.1, r.2)

pub gone_rises : (i high : ℕ) (ps : List (Option (List ℕ))) (ds : List (List ℕ)) → i + length ps ≤ high → Rises i high (gone_from i ps ds)
gone_rises i high [] ds le = tt
gone_rises i high (p ∷ ps) [] le = tt
gone_rises i high (None ∷ ps) (d ∷ ds) le = (le_refl i, omega arith, gone_rises (i + 1) high ps ds (omega arith))
gone_rises i high (Some f ∷ ps) (d ∷ ds) le = rises_lower (i + 1) i high (gone_from (i + 1) ps ds) (omega arith) (gone_rises (i + 1) high ps ds (omega arith))

-- ---- what the missing ones added to a parity fragment

abbrev pub sum_gone : (ℕ → List ℕ → List ℕ) → List ℕ → List (ℕ × List ℕ) → List ℕ
sum_gone adds start [] = start
sum_gone adds start (g ∷ gs) = sum_gone adds (xor_of start (adds g.0 g.1)) gs

module _ (adds : ℕ → List ℕ → List ℕ) (keeps : (i : ℕ) (f : List ℕ) → length (adds i f) ≡ length f) where
  sum_more : (i : ℕ) (s t : List ℕ) (fs : List (List ℕ)) → sum_onto adds i (xor_of s t) fs ≡ xor_of (sum_onto adds i s fs) t
  sum_more i s t [] = refl
  sum_more i s t (f ∷ fs) = ap (λ (u : List ℕ). sum_onto adds (i + 1) u fs) (swap s t (adds i f)) ∙ sum_more (i + 1) (xor_of s (adds i f)) t fs

  pub length-sum_onto : (part i : ℕ) (s : List ℕ) (fs : List (List ℕ)) → length s ≡ part → All (λ f. length f ≡ part) fs → length (sum_onto adds i s fs) ≡ part
  length-sum_onto part i s [] long all = long
  length-sum_onto part i s (f ∷ fs) long all =
      let here : length (adds i f) ≡ part = keeps i f ∙ All-head (λ f. length f ≡ part) f fs all in
      length-sum_onto part (i + 1) (xor_of s (adds i f)) fs (length-xor s (adds i f) (long ∙ sym here) ∙ long) (All-tail (λ f. length f ≡ part) f fs all)

  -- of a parity fragment, what is left once those that are there are taken out again
  pub rest_is_gone : (part i : ℕ) (s : List ℕ) (ps : List (Option (List ℕ))) (ds : List (List ℕ)) → AreOf ps ds → length s ≡ part
      → All (λ f. length f ≡ part) ds
      → rest_onto adds i (sum_onto adds i s ds) ps ≡ sum_gone adds s (gone_from i ps ds)
  rest_is_gone part i s [] [] are long all = refl
  rest_is_gone part i s [] (d ∷ ds) are long all = elim are [ ]
  rest_is_gone part i s (p ∷ ps) [] are long all = elim are [ ]
  rest_is_gone part i s (None ∷ ps) (d ∷ ds) are long all =
      let here : length (adds i d) ≡ part = keeps i d ∙ All-head (λ f. length f ≡ part) d ds all in
      rest_is_gone part (i + 1) (xor_of s (adds i d)) ps ds are.1 (length-xor s (adds i d) (long ∙ sym here) ∙ long) (All-tail (λ f. length f ≡ part) d ds all)
  rest_is_gone part i s (Some f ∷ ps) (d ∷ ds) are long all =
      let others = All-tail (λ f. length f ≡ part) d ds all in
      let here : length (adds i d) ≡ part = keeps i d ∙ All-head (λ f. length f ≡ part) d ds all in
      let sum = sum_onto adds (i + 1) s ds in
      let long_sum : length sum ≡ part = length-sum_onto part (i + 1) s ds long others in
      ap (λ (u : List ℕ). rest_onto adds (i + 1) u ps)
      (ap₂ xor_of (sum_more (i + 1) s (adds i d) ds) (ap (adds i) are.0) ∙ cancel sum (adds i d) (long_sum ∙ sym here))
      ∙ rest_is_gone part (i + 1) s ps ds are.1 long others

-- ---- one or two that are missing

pub plain_keeps : (i : ℕ) (f : List ℕ) → length (plain i f) ≡ length f
plain_keeps i f = refl

pub weighted_keeps : (i : ℕ) (f : List ℕ) → length (weighted i f) ≡ length f
weighted_keeps i f = length-times (2 ^ i) f

power_some : (i : ℕ) → 0 < 2 ^ i
power_some i = pow_pos i

power_byte : (i : ℕ) → i < 8 → 2 ^ i < 256
power_byte i low = pow_below i 8 low

-- where two places differ, so do their weights, and the sum of these isn't 0
weights_differ : (a b : ℕ) → a < b → 0 < bit_xor (2 ^ a) (2 ^ b)
weights_differ a b less =
    let apart : 2 ^ a < 2 ^ b = pow_below a b less in
    let same : bit_xor (2 ^ a) (2 ^ b) ≡ 0 → 2 ^ a ≡ 2 ^ b = λ none. sym (xor_undone (2 ^ a) (2 ^ b)) ∙ ap (λ (z : ℕ). bit_xor z (2 ^ b)) none in
    elim (cases_lt 0 (bit_xor (2 ^ a) (2 ^ b))) [
      | inl some ↦ some
      | inr none ↦ absurd (let e : 2 ^ a ≡ 2 ^ b = same (omega arith) in omega arith)
    ]

-- the piece that the second parity fragment alone gives
pub from_second : (part a : ℕ) (d : List ℕ) → a < 8 → length d ≡ part → IsBytes d
    → times (inverse_of (2 ^ a)) (sum_gone weighted (zeros part) ((a, d) ∷ [])) ≡ d
from_second part a d low long bytes =
    ap (times (inverse_of (2 ^ a))) (onto_zeros part (weighted a d) (length-times (2 ^ a) d ∙ long))
    ∙ times_back (2 ^ a) d (power_some a) (power_byte a low) bytes

-- the two pieces that both parity fragments give
pub from_both : (part a b : ℕ) (d e : List ℕ) → a < b → b < 8 → length d ≡ part → length e ≡ part → IsBytes d
    → both_of a b (sum_gone plain (zeros part) ((a, d) ∷ (b, e) ∷ [])) (sum_gone weighted (zeros part) ((a, d) ∷ (b, e) ∷ [])) ≡ d ∷ e ∷ []
from_both part a b d e less low long_d long_e bytes =
    let plain_sum : xor_of (xor_of (zeros part) d) e ≡ xor_of d e = ap (λ (u : List ℕ). xor_of u e) (onto_zeros part d long_d) in
    let x = times (2 ^ a) d in
    let y = times (2 ^ b) d in
    let z = times (2 ^ b) e in
    let long_x : length x ≡ part = length-times (2 ^ a) d ∙ long_d in
    let long_y : length y ≡ part = length-times (2 ^ b) d ∙ long_d in
    let long_z : length z ≡ part = length-times (2 ^ b) e ∙ long_e in
    let second_sum : xor_of (xor_of (zeros part) x) z ≡ xor_of x z = ap (λ (u : List ℕ). xor_of u z) (onto_zeros part x long_x) in
    let left : xor_of (xor_of x z) (times (2 ^ b) (xor_of d e)) ≡ times (bit_xor (2 ^ a) (2 ^ b)) d =
    ap (xor_of (xor_of x z)) (times_sum (2 ^ b) d e ∙ comm y z) ∙ sym (assoc (xor_of x z) z y)
    ∙ ap (λ (u : List ℕ). xor_of u y) (cancel x z (long_x ∙ sym long_z)) ∙ sym (times_by_sum (2 ^ a) (2 ^ b) d) in
    let byte : bit_xor (2 ^ a) (2 ^ b) < 256 = xor_lt 8 (2 ^ a) (2 ^ b) (power_byte a (omega arith)) (power_byte b low) in
    let lower : lower_of a b (xor_of d e) (xor_of x z) ≡ d =
    ap (times (inverse_of (bit_xor (2 ^ a) (2 ^ b)))) left ∙ times_back (bit_xor (2 ^ a) (2 ^ b)) d (weights_differ a b less) byte bytes in
    let upper : xor_of (xor_of d e) d ≡ e = ap (λ (u : List ℕ). xor_of u d) (comm d e) ∙ cancel e d (long_e ∙ sym long_d) in
    ap₂ (both_of a b) plain_sum second_sum ∙ ap₂ (λ (f g : List ℕ). f ∷ g ∷ []) lower (ap (xor_of (xor_of d e)) lower ∙ upper)

-- ---- what callers of the code's functions have to know

rising_lower : (low less high : ℕ) (as' : List ℕ) → less ≤ low → AreRising low high as' → AreRising less high as'
rising_lower low less high [] le r = tt
rising_lower low less high (a ∷ rest) le r = (le_trans le r.0, r.1, r.2)

pub missing_rises : (i high : ℕ) (ps : List (Option (List ℕ))) → i + length ps ≤ high → AreRising i high (missing_from i ps)
missing_rises i high [] le = tt
missing_rises i high (None ∷ ps) le = (le_refl i, omega arith, missing_rises (i + 1) high ps (omega arith))
missing_rises i high (Some f ∷ ps) le = rising_lower (i + 1) i high (missing_from (i + 1) ps) (omega arith) (missing_rises (i + 1) high ps (omega arith))

pub part_at_has : (P : List ℕ → Type 0) (ps : List (Option (List ℕ))) (i : ℕ) → All (λ p. IfSome p P) ps → IfSome (part_at ps i) P
part_at_has P [] i all = tt
part_at_has P (p ∷ ps) zero all = All-head (λ q. IfSome q P) p ps all
part_at_has P (p ∷ ps) (suc i) all = part_at_has P ps i (All-tail (λ q. IfSome q P) p ps all)

pub part_at-get_or : (ps : List (Option (List ℕ))) (i : ℕ) → get_or ps i None ≡ part_at ps i
part_at-get_or [] i = refl
part_at-get_or (p ∷ ps) zero = refl
part_at-get_or (p ∷ ps) (suc i) = part_at-get_or ps i

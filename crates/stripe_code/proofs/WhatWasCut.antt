-- What a round reads is the text that was cut, where all fragments that count are of one text.
use Rattle.std.proofs.Common.{◌≡◌, ℕ, ◌-◌, ◌≤◌, ◌⊎◌, ◌==◌, is_some, unwrap_or, List, [], ◌∷◌, map, Option, Some, None, length, refl, sym, ap, subst, ◌∙◌, inl, inr, arith}
use Rattle.std.specs.Prelude.{All, IfSome, count_by, if◌then◌else◌}
use Rattle.std.specs.List.{range_with_len}
use Rattle.std.proofs.lemmas.Bool.{eqb-true, leb-true}
use Rattle.std.proofs.lemmas.List.Elements.{All-head, All-tail}
use Rattle.std.proofs.lemmas.List.FromFn.{length-map-range_with_len}
use Rattle.xfs_base.proofs.Booleans.{by_test}
use Rattle.stripe_code.specs.declared.round.Answer.{Answer}
use Rattle.stripe_code.specs.declared.round.RoundState.{RoundState}
use Rattle.stripe_code.specs.declared.round.RoundState.TheVariants.{Read, Short, Waiting}
use Rattle.stripe_code.specs.declared.round.Told.{Told}
use Rattle.stripe_code.specs.declared.round.Told.TheVariants.{Held, Missing}
use Rattle.stripe_code.specs.Fragments.{fragment_at}
use Rattle.stripe_code.specs.Joined.{AreOf, missing_from, joined}
use Rattle.stripe_code.specs.WhatWasCut.{ToldOf, ReadsWhatWasCut}
use Rattle.stripe_code.specs.Round.{RoundSoFar, IsRound, count_of, len_in, len_told, bytes_in, bytes_told, parts_in, is_enough, all_answered, missing_in, state_of}
use Rattle.stripe_code.specs.Stripe.{IsBytes, stripe_of}
use Rattle.stripe_code.proofs.Given.{gives_back}
use Rattle.stripe_code.proofs.Places.{length_stripe, are_of, none_counted}
use Rattle.stripe_code.proofs.Recovery.{few_missing}
use Rattle.stripe_code.proofs.Rounds.{round_cut, enough_in}

-- ---- what is in

module _ (text : List ℕ) (n parity : ℕ) where
  abbrev Of : Answer → Type 0
  Of a = ToldOf text n parity a.told

  -- the length of the text is in, or no fragment
  abbrev LenOrNone : Option ℕ → (ℕ → Option (List ℕ)) → Type 0
  LenOrNone len bytes = (len ≡ Some (length text)) ⊎ ((i : ℕ) → bytes i ≡ None)

  len_more : (t : Told) (len : Option ℕ) (bytes : ℕ → Option (List ℕ)) → ToldOf text n parity t → LenOrNone len bytes
      → LenOrNone (len_told t len) (λ i. bytes_told i t (bytes i))
  len_more (Held f) len bytes told before = inl (ap (λ (k : ℕ). Some k) told.0)
  len_more (Missing g) len bytes told before = before

  len_or_none : (answers : List Answer) → All Of answers → LenOrNone (len_in answers) (λ i. bytes_in i answers)
  len_or_none [] all = inr (λ i. refl)
  len_or_none (a ∷ rest) all =
      len_more a.told (len_in rest) (λ i. bytes_in i rest) (All-head Of a rest all) (len_or_none rest (All-tail Of a rest all))

  abbrev IsAt : ℕ → Option (List ℕ) → Type 0
  IsAt i o = IfSome o (λ bs. bs ≡ fragment_at (stripe_of text n parity) i)

  piece_more : (t : Told) (i : ℕ) (others : Option (List ℕ)) → ToldOf text n parity t → IsAt i others → IsAt i (bytes_told i t others)
  piece_more (Held f) i others told before =
      by_test (IsAt i) (f.meta.index == i) (Some f.bytes) others
      (λ t. told.1 ∙ ap (fragment_at (stripe_of text n parity)) (eqb-true f.meta.index i t)) (λ t. before)
  piece_more (Missing g) i others told before = before

  piece_in : (i : ℕ) (answers : List Answer) → All Of answers → IsAt i (bytes_in i answers)
  piece_in i [] all = tt
  piece_in i (a ∷ rest) all = piece_more a.told i (bytes_in i rest) (All-head Of a rest all) (piece_in i rest (All-tail Of a rest all))

-- ---- what enough of them join to

module _ (r : RoundSoFar) (text : List ℕ) (round : IsRound r) (bytes : IsBytes text) (told : All (λ a. ToldOf text r.n r.parity a.told) r.answers) where
  abbrev parts : List (Option (List ℕ))
  parts = parts_in r.n r.answers

  abbrev stripe : List (List ℕ)
  stripe = stripe_of text r.n r.parity

  many : length parts ≡ r.n
  many = length-map-range_with_len (λ index. bytes_in index r.answers) 0 r.n

  are : AreOf parts (stripe_of text (length parts) r.parity)
  are = subst (λ k. AreOf parts (stripe_of text k r.parity)) (sym many)
      (subst (λ k. AreOf (map (λ index. bytes_in index r.answers) (range_with_len 0 k)) stripe) (length_stripe text r.n r.parity round.cut)
      (are_of stripe 0 (λ index. bytes_in index r.answers)
      (λ i k e. subst (λ j. IfSome (bytes_in k r.answers) (λ bs. bs ≡ fragment_at stripe j)) (let a : k ≡ i = omega arith in a)
      (piece_in text r.n r.parity k r.answers told))))

  module _ (enough : count_of r ≤ count_by is_some parts) where
    len_is : len_in r.answers ≡ Some (length text)
    len_is = by (len_or_none text r.n r.parity r.answers told)
      where
        by : LenOrNone text r.n r.parity (len_in r.answers) (λ i. bytes_in i r.answers) → len_in r.answers ≡ Some (length text)
        by (inl fact) = fact
        by (inr none) = absurd (let a = none_counted (λ i. bytes_in i r.answers) none 0 r.n in let b = round.cut.least in let c = enough in omega arith)

    joined_is : joined parts r.parity (unwrap_or (len_in r.answers) 0) ≡ text
    joined_is =
        ap (λ o. joined parts r.parity (unwrap_or o 0)) len_is
        ∙ gives_back parts text bytes r.parity (round_cut r parts round refl) are
        (few_missing r.parity round.cut.some round.cut.few (missing_from 0 parts) (enough_in r parts round refl enough))

pub reads_what_was_cut : ReadsWhatWasCut
unfolding state_of
reads_what_was_cut r text found round bytes told =
    by_test (λ (s : RoundState). s ≡ Read found → found ≡ text) (is_enough r)
    (Read (joined (parts_in r.n r.answers) r.parity (unwrap_or (len_in r.answers) 0)))
    (if all_answered r.answers r.servers then Short (missing_in r.answers) else Waiting)
    (λ t same. (let fact = joined_is r text round bytes told (leb-true (count_of r) (count_by is_some (parts_in r.n r.answers)) t) in cc))
    (λ t. by_test (λ (s : RoundState). s ≡ Read found → found ≡ text) (all_answered r.answers r.servers) (Short (missing_in r.answers)) Waiting
    (λ k same. absurd cc) (λ k same. absurd cc))

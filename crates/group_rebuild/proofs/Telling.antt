-- What is told at the end are the numbers of fragments that were said to be filled in, and of rounds that ended with too few.
use Rattle.std.proofs.Common.{inl, inr, ◌≡◌, ℕ, suc, ◌+◌, ◌≤◌, Bool, true, false, cond, List, [], ◌∷◌, ◌++◌, length, Option, Some, None, refl, sym, ap, ◌∙◌, arith, length-append}
use Rattle.std.specs.Prelude.{Contains, ◌==◌, ◌&&◌, filter}
use Rattle.std.proofs.lemmas.List.Elements.{filter-append}
use Rattle.stripe_code.specs.Round.{RoundSoFar, round_take, state_of}
use Rattle.stripe_code.specs.declared.round.RoundState.{RoundState}
use Rattle.stripe_code.specs.declared.round.RoundState.TheVariants.{Read, Short, Waiting}
use Rattle.stripe_code.specs.declared.round.Told.{Told}
use Rattle.xfs_base.specs.declared.segment.SegName.{SegName}
use Rattle.xfs_base.specs.Limits.{u32_end}
use Rattle.xfs_base.specs.Steps.{Stepped, still}
use Rattle.xfs_base.proofs.Booleans.{by_test}
use Rattle.xfs_base.proofs.Members.{contains_nothing, contains_cases}
use Rattle.group_rebuild.specs.declared.output.Out.{Out}
use Rattle.group_rebuild.specs.declared.output.Out.TheVariants.{Fill, Finished}
use Rattle.group_rebuild.specs.declared.reads.Present.{Present}
use Rattle.group_rebuild.specs.declared.wanted.Wanted.{Wanted}
use Rattle.group_rebuild.specs.Counted.{count_of, names_in, Reply, after_replies, reading_after, is_fill, fills_in, said_to, is_short, ends_short, shorts_by, AreTallied}
use Rattle.group_rebuild.specs.Reads.{ReadsState, reads_of, one_more, fetches, go_on, counts, reads_judge, answered, reads_take}
use Rattle.group_rebuild.specs.Wanted.{refilled}
use Rattle.group_rebuild.proofs.Counting.{one_more_is, in_all, finished, no_end, names_stay, names_begun}

fills_both : (xs ys : List Out) → fills_in (xs ++ ys) ≡ fills_in xs + fills_in ys
fills_both xs ys = ap length (filter-append is_fill xs ys) ∙ length-append (filter is_fill xs) (filter is_fill ys)

fills-fetches : (name : SegName) (ask : ℕ) (servers : List ℕ) → fills_in (fetches name ask servers) ≡ 0
fills-fetches name ask [] = refl
fills-fetches name ask (s ∷ ss) = fills-fetches name ask ss

-- the counts as they were, with what is said by this step and whether it ends a round with too few fragments
record Tells (r : ReadsState) (next : Stepped ReadsState Out) (short : Bool) : Type 0 where
  filled : next.state.filled ≡ r.filled + fills_in next.outs
  gone : next.state.gone ≡ r.gone + cond short 1 0

-- the next round says nothing of fragments, and keeps the counts
record Keeps (r : ReadsState) (next : Stepped ReadsState Out) : Type 0 where
  filled : next.state.filled ≡ r.filled
  gone : next.state.gone ≡ r.gone
  fills : fills_in next.outs ≡ 0

keeps-go_on : (left : List Wanted) (r : ReadsState) → Keeps r (go_on left r)
keeps-go_on [] r = record { filled = refl; gone = refl; fills = refl }
keeps-go_on (w ∷ ws) r = record { filled = refl; gone = refl; fills = fills-fetches w.meta.name (one_more r.ask) w.others }

tells-reads_judge : (r : ReadsState) (w : Wanted) (round : RoundSoFar) (st : RoundState) → in_all r ≤ u32_end → Tells r (reads_judge r w round st) (is_short st)
tells-reads_judge r w round (Read text) le =
    let more : one_more r.filled ≡ r.filled + 1 = one_more_is r.filled u32_end (omega (arith, le)) in
    let k = keeps-go_on r.left (record r { filled = one_more r.filled }) in
    record { filled = k.filled ∙ more ∙ ap (λ n. r.filled + suc n) (sym k.fills); gone = k.gone ∙ omega arith }
tells-reads_judge r w round (Short pairs) le =
    let more : one_more r.gone ≡ r.gone + 1 = one_more_is r.gone u32_end (omega (arith, le)) in
    let k = keeps-go_on r.left (record r { gone = one_more r.gone }) in
    record { filled = k.filled ∙ omega (arith, k.fills); gone = k.gone ∙ more }
tells-reads_judge r w round Waiting le = record { filled = omega arith; gone = omega arith }

tells-answered : (r : ReadsState) (present : Option Present) (a : Reply) → r.present ≡ present → names_in r ≤ u32_end
    → Tells r (answered r present a.ask a.server a.told) (ends_short r present a)
tells-answered r None a e le = record { filled = omega arith; gone = omega arith }
tells-answered r (Some p) a e le =
    let round : RoundSoFar = round_take p.round a.server a.told in
    let all : names_in r ≡ in_all r = ap (λ o. r.filled + r.gone + count_of o + length r.left) e in
    let judgement = tells-reads_judge r p.wanted round (state_of round) (omega (arith, all, le)) in
    elim ((a.ask == r.ask) && counts p a.server a.told) as
    (λ t. Tells r (cond t (reads_judge r p.wanted round (state_of round)) (still r)) (t && is_short (state_of round))) [
      | true ↦ judgement
      | false ↦ record { filled = omega arith; gone = omega arith }
    ]

tells-reply : (r : ReadsState) (a : Reply) → names_in r ≤ u32_end → Tells r (reads_take r a.ask a.server a.told) (ends_short r r.present a)
unfolding reads_take
tells-reply r a le = tells-answered r r.present a refl le

-- ---- over any replies

-- the counts after replies
record TellsAll (r : ReadsState) (replies : List Reply) : Type 0 where
  filled : (after_replies r replies).filled ≡ r.filled + fills_in (said_to r replies)
  gone : (after_replies r replies).gone ≡ r.gone + shorts_by r replies

tells_all : (r : ReadsState) (replies : List Reply) → names_in r ≤ u32_end → TellsAll r replies
tells_all r [] le = record { filled = omega arith; gone = omega arith }
tells_all r (a ∷ rest) le =
    let one = tells-reply r a le in
    let stay = names_stay r a.ask a.server a.told le in
    let next : ReadsState = (reads_take r a.ask a.server a.told).state in
    let all = tells_all next rest (omega (arith, stay, le)) in
    let both = fills_both (reads_take r a.ask a.server a.told).outs (said_to next rest) in
    record { filled = all.filled ∙ omega (arith, one.filled, both); gone = all.gone ∙ omega (arith, one.gone) }

-- ---- at the end

ends-go_on : (left : List Wanted) (r : ReadsState) (a b : ℕ) → Contains (go_on left r).outs (Finished a b)
    → (a ≡ (go_on left r).state.filled) × (b ≡ (go_on left r).state.gone)
ends-go_on [] r a b h = elim (contains_cases (finished r.filled r.gone) (finished a b) [] h) [
  | inl e ↦ (let p : a ≡ r.filled = cc in let q : b ≡ r.gone = cc in (p, q))
  | inr k ↦ absurd (contains_nothing (finished a b) k)
]
ends-go_on (w ∷ ws) r a b h = absurd (no_end w.meta.name (one_more r.ask) w.others a b h)

-- what is told at the end is what is kept
abbrev EndsAs : ℕ → ℕ → Stepped ReadsState Out → Type 0
EndsAs a b st = Contains st.outs (Finished a b) → (a ≡ st.state.filled) × (b ≡ st.state.gone)

ends-reads_judge : (r : ReadsState) (w : Wanted) (round : RoundSoFar) (st : RoundState) (a b : ℕ) → EndsAs a b (reads_judge r w round st)
ends-reads_judge r w round (Read text) a b h =
    let next = record r { filled = one_more r.filled } in
    elim (contains_cases (Fill (refilled w text)) (finished a b) (go_on r.left next).outs h) [
      | inl e ↦ absurd cc
      | inr k ↦ ends-go_on r.left next a b k
    ]
ends-reads_judge r w round (Short pairs) a b h = ends-go_on r.left (record r { gone = one_more r.gone }) a b h
ends-reads_judge r w round Waiting a b h = absurd (contains_nothing (finished a b) h)

ends-answered : (r : ReadsState) (present : Option Present) (ask server : ℕ) (told : Told) (a b : ℕ) → EndsAs a b (answered r present ask server told)
ends-answered r None ask server told a b h = absurd (contains_nothing (finished a b) h)
ends-answered r (Some p) ask server told a b h =
    by_test (EndsAs a b) ((ask == r.ask) && counts p server told)
    (reads_judge r p.wanted (round_take p.round server told) (state_of (round_take p.round server told))) (still r)
    (λ _. ends-reads_judge r p.wanted (round_take p.round server told) (state_of (round_take p.round server told)) a b)
    (λ _ k. absurd (contains_nothing (finished a b) k))
    h

ends-reply : (r : ReadsState) (last : Reply) (a b : ℕ) → EndsAs a b (reads_take r last.ask last.server last.told)
unfolding reads_take
ends-reply r last a b h = ends-answered r r.present last.ask last.server last.told a b h

after_last : (r : ReadsState) (replies : List Reply) (last : Reply)
    → after_replies r (replies ++ last ∷ []) ≡ (reads_take (after_replies r replies) last.ask last.server last.told).state
after_last r [] last = refl
after_last r (a ∷ rest) last = after_last (reads_take r a.ask a.server a.told).state rest last

from_none : (n : ℕ) → 0 + n ≡ n
from_none n = omega arith

pub are_tallied : (wanted : List Wanted) (replies : List Reply) (last : Reply) (a b : ℕ) → length wanted ≤ u32_end
    → Contains (reads_take (reading_after wanted replies) last.ask last.server last.told).outs (Finished a b)
    → AreTallied wanted (replies ++ last ∷ []) a b
are_tallied wanted replies last a b le h =
    let first : ReadsState = (go_on wanted (reads_of wanted)).state in
    let begun = names_begun wanted in
    let kept = keeps-go_on wanted (reads_of wanted) in
    let all = tells_all first (replies ++ last ∷ []) (omega (arith, begun, le)) in
    let told = ends-reply (reading_after wanted replies) last a b h in
    let state = after_last first replies last in
    record {
      fills = told.0 ∙ ap (λ (r : ReadsState). r.filled) (sym state) ∙ all.filled
          ∙ ap (λ n. n + fills_in (said_to first (replies ++ last ∷ []))) kept.filled ∙ from_none (fills_in (said_to first (replies ++ last ∷ [])));
      shorts = told.1 ∙ ap (λ (r : ReadsState). r.gone) (sym state) ∙ all.gone ∙ ap (λ n. n + shorts_by first (replies ++ last ∷ [])) kept.gone
          ∙ from_none (shorts_by first (replies ++ last ∷ []));
    }

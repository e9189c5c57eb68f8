-- Each name that is wanted is counted once.
use Rattle.std.proofs.Common.{inl, inr, ◌≡◌, ℕ, ◌+◌, ◌≤◌, List, [], ◌∷◌, length, min, Option, Some, None, refl, sym, ap, ◌∙◌, arith}
use Rattle.std.specs.Prelude.{Contains, ◌==◌, ◌&&◌}
use Rattle.stripe_code.specs.Round.{RoundSoFar, round_take, state_of}
use Rattle.stripe_code.specs.declared.round.RoundState.{RoundState}
use Rattle.stripe_code.specs.declared.round.RoundState.TheVariants.{Read, Short, Waiting}
use Rattle.stripe_code.specs.declared.round.Told.{Told}
use Rattle.xfs_base.specs.declared.segment.SegName.{SegName}
use Rattle.xfs_base.specs.Limits.{u32_end}
use Rattle.xfs_base.specs.Steps.{Stepped, still}
use Rattle.xfs_base.proofs.Booleans.{by_test}
use Rattle.xfs_base.proofs.Members.{contains_nothing, contains_cases}
use Rattle.group_rebuild.specs.declared.output.Out.{Out}
use Rattle.group_rebuild.specs.declared.output.Out.TheVariants.{Fetch, Fill, Finished}
use Rattle.group_rebuild.specs.declared.reads.Present.{Present}
use Rattle.group_rebuild.specs.declared.wanted.Wanted.{Wanted}
use Rattle.group_rebuild.specs.Counted.{count_of, names_in, Reply, after_replies, reading_after}
use Rattle.group_rebuild.specs.Reads.{ReadsState, reads_of, one_more, fetches, go_on, counts, reads_judge, answered, reads_take}
use Rattle.group_rebuild.specs.Wanted.{refilled}

pub one_more_is : (n e : ℕ) → n + 1 ≤ e → min (n + 1) e ≡ n + 1
one_more_is n e le = omega arith

-- ---- the next name

names_in-go_on : (left : List Wanted) (r : ReadsState) → names_in (go_on left r).state ≡ r.filled + r.gone + length left
names_in-go_on [] r = omega arith
names_in-go_on (w ∷ ws) r = omega arith

abbrev pub finished : ℕ → ℕ → Out
finished a b = Finished a b

-- no question ends the rebuild
pub no_end : (name : SegName) (ask : ℕ) (servers : List ℕ) (a b : ℕ) → Contains (fetches name ask servers) (Finished a b) → ⊥
no_end name ask [] a b h = contains_nothing (finished a b) h
no_end name ask (s ∷ ss) a b h =
    elim (contains_cases (Fetch s name ask) (finished a b) (fetches name ask ss) h) [ inl e ↦ absurd cc | inr k ↦ no_end name ask ss a b k ]

ends-go_on : (left : List Wanted) (r : ReadsState) (a b : ℕ) → Contains (go_on left r).outs (Finished a b) → a + b ≡ r.filled + r.gone + length left
ends-go_on [] r a b h = elim (contains_cases (finished r.filled r.gone) (finished a b) [] h) [
  | inl e ↦ (let p : r.filled ≡ a = cc in let q : r.gone ≡ b = cc in omega (arith, p, q))
  | inr k ↦ absurd (contains_nothing (finished a b) k)
]
ends-go_on (w ∷ ws) r a b h = absurd (no_end w.meta.name (one_more r.ask) w.others a b h)

-- ---- an answer

-- the names of a reading, one of which is read
abbrev pub in_all : ReadsState → ℕ
in_all r = r.filled + r.gone + 1 + length r.left

names_in-reads_judge : (r : ReadsState) (w : Wanted) (round : RoundSoFar) (st : RoundState) → in_all r ≤ u32_end → names_in (reads_judge r w round st).state ≡ in_all r
names_in-reads_judge r w round (Read text) le =
    let more : one_more r.filled ≡ r.filled + 1 = one_more_is r.filled u32_end (omega (arith, le)) in
    let all = names_in-go_on r.left (record r { filled = one_more r.filled }) in
    all ∙ omega (arith, more)
names_in-reads_judge r w round (Short pairs) le =
    let more : one_more r.gone ≡ r.gone + 1 = one_more_is r.gone u32_end (omega (arith, le)) in
    let all = names_in-go_on r.left (record r { gone = one_more r.gone }) in
    all ∙ omega (arith, more)
names_in-reads_judge r w round Waiting le = omega arith

ends-reads_judge : (r : ReadsState) (w : Wanted) (round : RoundSoFar) (st : RoundState) (a b : ℕ) → in_all r ≤ u32_end
    → Contains (reads_judge r w round st).outs (Finished a b) → a + b ≡ in_all r
ends-reads_judge r w round (Read text) a b le h =
    let more : one_more r.filled ≡ r.filled + 1 = one_more_is r.filled u32_end (omega (arith, le)) in
    let next = record r { filled = one_more r.filled } in
    elim (contains_cases (Fill (refilled w text)) (finished a b) (go_on r.left next).outs h) [
      | inl e ↦ absurd cc
      | inr k ↦ ends-go_on r.left next a b k ∙ omega (arith, more)
    ]
ends-reads_judge r w round (Short pairs) a b le h =
    let more : one_more r.gone ≡ r.gone + 1 = one_more_is r.gone u32_end (omega (arith, le)) in
    ends-go_on r.left (record r { gone = one_more r.gone }) a b h ∙ omega (arith, more)
ends-reads_judge r w round Waiting a b le h = absurd (contains_nothing (finished a b) h)

names_in-answered : (r : ReadsState) (present : Option Present) (ask server : ℕ) (told : Told) → r.present ≡ present → names_in r ≤ u32_end
    → names_in (answered r present ask server told).state ≡ names_in r
names_in-answered r None ask server told e le = refl
names_in-answered r (Some p) ask server told e le =
    let all : names_in r ≡ in_all r = ap (λ o. r.filled + r.gone + count_of o + length r.left) e in
    by_test (λ (st : Stepped ReadsState Out). names_in st.state ≡ names_in r) ((ask == r.ask) && counts p server told)
    (reads_judge r p.wanted (round_take p.round server told) (state_of (round_take p.round server told))) (still r)
    (λ t. names_in-reads_judge r p.wanted (round_take p.round server told) (state_of (round_take p.round server told)) (omega (arith, all, le)) ∙ sym all)
    (λ t. refl)

ends-answered : (r : ReadsState) (present : Option Present) (ask server : ℕ) (told : Told) (a b : ℕ) → r.present ≡ present → names_in r ≤ u32_end
    → Contains (answered r present ask server told).outs (Finished a b) → a + b ≡ names_in r
ends-answered r None ask server told a b e le h = absurd (contains_nothing (finished a b) h)
ends-answered r (Some p) ask server told a b e le h =
    let all : names_in r ≡ in_all r = ap (λ o. r.filled + r.gone + count_of o + length r.left) e in
    by_test (λ (st : Stepped ReadsState Out). Contains st.outs (Finished a b) → a + b ≡ names_in r) ((ask == r.ask) && counts p server told)
    (reads_judge r p.wanted (round_take p.round server told) (state_of (round_take p.round server told))) (still r)
    (λ t k. ends-reads_judge r p.wanted (round_take p.round server told) (state_of (round_take p.round server told)) a b (omega (arith, all, le)) k ∙ sym all)
    (λ t k. absurd (contains_nothing (finished a b) k))
    h

pub names_stay : (r : ReadsState) (ask server : ℕ) (told : Told) → names_in r ≤ u32_end → names_in (reads_take r ask server told).state ≡ names_in r
unfolding reads_take
names_stay r ask server told le = names_in-answered r r.present ask server told refl le

all_are_counted : (r : ReadsState) (ask server : ℕ) (told : Told) (a b : ℕ) → names_in r ≤ u32_end → Contains (reads_take r ask server told).outs (Finished a b)
    → a + b ≡ names_in r
unfolding reads_take
all_are_counted r ask server told a b le h = ends-answered r r.present ask server told a b refl le h

pub names_begun : (wanted : List Wanted) → names_in (go_on wanted (reads_of wanted)).state ≡ length wanted
names_begun wanted = names_in-go_on wanted (reads_of wanted) ∙ omega arith

pub none_to_count : (wanted : List Wanted) (a b : ℕ) → Contains (go_on wanted (reads_of wanted)).outs (Finished a b) → a + b ≡ length wanted
none_to_count wanted a b h = ends-go_on wanted (reads_of wanted) a b h ∙ omega arith

-- over any replies
pub names_stay_after : (r : ReadsState) (replies : List Reply) → names_in r ≤ u32_end → names_in (after_replies r replies) ≡ names_in r
names_stay_after r [] le = refl
names_stay_after r (a ∷ rest) le =
    let one = names_stay r a.ask a.server a.told le in
    names_stay_after (reads_take r a.ask a.server a.told).state rest (omega (arith, one, le)) ∙ one

pub names_are_counted : (wanted : List Wanted) (replies : List Reply) → length wanted ≤ u32_end → names_in (reading_after wanted replies) ≡ length wanted
names_are_counted wanted replies le =
    let first = names_begun wanted in
    names_stay_after (go_on wanted (reads_of wanted)).state replies (omega (arith, first, le)) ∙ first

pub all_are_finished : (wanted : List Wanted) (replies : List Reply) (ask server : ℕ) (told : Told) (a b : ℕ) → length wanted ≤ u32_end
    → Contains (reads_take (reading_after wanted replies) ask server told).outs (Finished a b) → a + b ≡ length wanted
all_are_finished wanted replies ask server told a b le h =
    let all = names_are_counted wanted replies le in
    all_are_counted (reading_after wanted replies) ask server told a b (omega (arith, all, le)) h ∙ all

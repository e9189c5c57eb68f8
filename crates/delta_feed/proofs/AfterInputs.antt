-- What a feed keeps after any inputs is what they determine.
use Rattle.std.proofs.Common.{◌≡◌, ℕ, ◌<◌, ◌≤◌, Bool, true, false, cond, not, List, [], ◌∷◌, ◌++◌, ◌||◌, length, get_or, set, refl, sym, ap, ◌∙◌, arith, append_assoc}
use Rattle.std.specs.Prelude.{max, nat_lt, ◌==◌, ◌&&◌}
use Rattle.std.specs.List.{list_any}
use Rattle.std.proofs.lemmas.Bool.Decides.{nat_tests}
use Rattle.std.proofs.lemmas.List.{append-nil, length-set, get_or-set_same, get_or-set_other, get_or-replicate}
use Rattle.xfs_base.specs.Steps.{steps}
use Rattle.xfs_base.proofs.Booleans.{by_test}
use Rattle.xfs_base.specs.Limits.{slot_count}
use Rattle.delta_feed.specs.declared.feed.FiledDeltas.{FiledDeltas}
use Rattle.delta_feed.specs.declared.input.In.{In}
use Rattle.delta_feed.specs.declared.input.In.TheVariants.{Settled, Ack, NewEpoch, Push, Tick}
use Rattle.delta_feed.specs.FeedState.{FeedState, feed_start, acked_of}
use Rattle.delta_feed.specs.Transition.{acknowledged, new_epoch, transition}
use Rattle.delta_feed.specs.History.{state_after, greatest, settled_numbers, end_of, filed_by, renews, acks_since, acknowledged_by}

-- ---- greatest numbers

pub greatest-max : (n least : ℕ) (ns : List ℕ) → greatest (max n least) ns ≡ max n (greatest least ns)
greatest-max n least [] = refl
greatest-max n least (m ∷ ns) = let rest : greatest (max n least) ns ≡ max n (greatest least ns) = greatest-max n least ns in omega arith

-- ---- one input

kept_base : (s : FeedState) (input : In) → (transition s input).state.base ≡ s.base
kept_base s (Settled seq rows) =
    by_test (λ (t : FeedState). t.base ≡ s.base) (nat_lt s.end seq) (record s { filed = s.filed ++ record { seq = seq; rows = rows } ∷ []; end = seq }) s
    (λ _. refl) (λ _. refl)
kept_base s (Ack slot applied) =
    by_test (λ (t : FeedState). t.base ≡ s.base) (nat_lt slot slot_count && nat_lt (acked_of s slot) applied) (record s { acked = set s.acked slot applied }) s
    (λ _. refl) (λ _. refl)
kept_base s (NewEpoch slot) =
    by_test (λ (t : FeedState). t.base ≡ s.base) (nat_lt slot slot_count) (record s { acked = set s.acked slot s.base }) s (λ _. refl) (λ _. refl)
kept_base s (Push slot) = refl
kept_base s Tick = refl

kept_eight : (s : FeedState) (input : In) → length s.acked ≡ slot_count → length (transition s input).state.acked ≡ slot_count
kept_eight s (Settled seq rows) eight =
    by_test (λ (t : FeedState). length t.acked ≡ slot_count) (nat_lt s.end seq) (record s { filed = s.filed ++ record { seq = seq; rows = rows } ∷ []; end = seq }) s
    (λ _. eight) (λ _. eight)
kept_eight s (Ack slot applied) eight =
    by_test (λ (t : FeedState). length t.acked ≡ slot_count) (nat_lt slot slot_count && nat_lt (acked_of s slot) applied) (record s { acked = set s.acked slot applied }) s
    (λ _. length-set s.acked slot applied ∙ eight) (λ _. eight)
kept_eight s (NewEpoch slot) eight =
    by_test (λ (t : FeedState). length t.acked ≡ slot_count) (nat_lt slot slot_count) (record s { acked = set s.acked slot s.base }) s
    (λ _. length-set s.acked slot s.base ∙ eight) (λ _. eight)
kept_eight s (Push slot) eight = eight
kept_eight s Tick eight = eight

-- a slot that there is
pub acked_in : (s : FeedState) (slot : ℕ) → slot < slot_count → acked_of s slot ≡ get_or s.acked slot 0
acked_in s slot l = let p : nat_lt slot slot_count ≡ true = grind (arith, nat_tests) in ap (λ t. cond t (get_or s.acked slot 0) s.base) p

module _ (slot : ℕ) (l : slot < slot_count) (s : FeedState) (eight : length s.acked ≡ slot_count) where
  abbrev now : FeedState → ℕ
  now t = get_or t.acked slot 0

  ack_more : (n : ℕ) → now (acknowledged s slot n) ≡ max n (now s)
  ack_more n =
      let fact : acked_of s slot ≡ now s = acked_in s slot l in
      by_test (λ (t : FeedState). now t ≡ max n (now s)) (nat_lt slot slot_count && nat_lt (acked_of s slot) n) (record s { acked = set s.acked slot n }) s
      (λ p. let less : now s < n = grind (arith, nat_tests) in get_or-set_same s.acked slot n 0 (rw eight l) ∙ omega (arith, less))
      (λ p. let limit : n ≤ now s = grind (arith, nat_tests) in omega (arith, limit))

  ack_own : (acker n : ℕ) → (acker == slot) ≡ true → now (acknowledged s acker n) ≡ max n (now s)
  ack_own acker n one = let fact : acker ≡ slot = grind (arith, nat_tests) in ap (λ a. now (acknowledged s a n)) fact ∙ ack_more n

  ack_other : (acker n : ℕ) → (acker == slot) ≡ false → now (acknowledged s acker n) ≡ now s
  ack_other acker n apart =
      by_test (λ (t : FeedState). now t ≡ now s) (nat_lt acker slot_count && nat_lt (acked_of s acker) n) (record s { acked = set s.acked acker n }) s
      (λ _. get_or-set_other s.acked acker slot n 0 (grind (arith, nat_tests))) (λ _. refl)

  renew_own : (renewed : ℕ) → (renewed == slot) ≡ true → now (new_epoch s renewed) ≡ s.base
  renew_own renewed one =
      let fact : renewed ≡ slot = grind (arith, nat_tests) in
      let p : nat_lt slot slot_count ≡ true = grind (arith, nat_tests) in
      ap (λ r. now (new_epoch s r)) fact ∙ ap (λ t. now (cond t (record s { acked = set s.acked slot s.base }) s)) p
      ∙ get_or-set_same s.acked slot s.base 0 (rw eight l)

  renew_other : (renewed : ℕ) → (renewed == slot) ≡ false → now (new_epoch s renewed) ≡ now s
  renew_other renewed apart =
      by_test (λ (t : FeedState). now t ≡ now s) (nat_lt renewed slot_count) (record s { acked = set s.acked renewed s.base }) s
      (λ _. get_or-set_other s.acked renewed slot s.base 0 (grind (arith, nat_tests))) (λ _. refl)

-- ---- many inputs, from any state

abbrev later : FeedState → List In → FeedState
later s inputs = (steps transition s inputs).state

base_after : (s : FeedState) (inputs : List In) → (later s inputs).base ≡ s.base
base_after s [] = refl
base_after s (i ∷ rest) = base_after (transition s i).state rest ∙ kept_base s i

eight_after : (s : FeedState) (inputs : List In) → length s.acked ≡ slot_count → length (later s inputs).acked ≡ slot_count
eight_after s [] eight = eight
eight_after s (i ∷ rest) eight = eight_after (transition s i).state rest (kept_eight s i eight)

filed_after : (s : FeedState) (inputs : List In) → (later s inputs).filed ≡ s.filed ++ filed_by s.end inputs
filed_after s [] = sym (append-nil s.filed)
filed_after s (Settled seq rows ∷ rest) =
    let f : FiledDeltas = record { seq = seq; rows = rows } in
    elim (nat_lt s.end seq) as
    (λ t. (later (cond t (record s { filed = s.filed ++ f ∷ []; end = seq }) s) rest).filed ≡ s.filed ++ cond t (f ∷ filed_by seq rest) (filed_by s.end rest)) [
      | true ↦ filed_after (record s { filed = s.filed ++ f ∷ []; end = seq }) rest ∙ append_assoc s.filed (f ∷ []) (filed_by seq rest)
      | false ↦ filed_after s rest
    ]
filed_after s (Ack slot applied ∷ rest) =
    filed_after (acknowledged s slot applied) rest
    ∙ by_test (λ (t : FeedState). t.filed ++ filed_by t.end rest ≡ s.filed ++ filed_by s.end rest) (nat_lt slot slot_count && nat_lt (acked_of s slot) applied)
    (record s { acked = set s.acked slot applied }) s (λ _. refl) (λ _. refl)
filed_after s (NewEpoch slot ∷ rest) =
    filed_after (new_epoch s slot) rest
    ∙ by_test (λ (t : FeedState). t.filed ++ filed_by t.end rest ≡ s.filed ++ filed_by s.end rest) (nat_lt slot slot_count)
    (record s { acked = set s.acked slot s.base }) s
    (λ _. refl) (λ _. refl)
filed_after s (Push slot ∷ rest) = filed_after s rest
filed_after s (Tick ∷ rest) = filed_after s rest

end_after : (s : FeedState) (inputs : List In) → (later s inputs).end ≡ greatest s.end (settled_numbers inputs)
end_after s [] = refl
end_after s (Settled seq rows ∷ rest) =
    let numbers : List ℕ = settled_numbers rest in
    let f : FiledDeltas = record { seq = seq; rows = rows } in
    elim (nat_lt s.end seq) as
    (λ t. nat_lt s.end seq ≡ t → (later (cond t (record s { filed = s.filed ++ f ∷ []; end = seq }) s) rest).end ≡ max seq (greatest s.end numbers)) [
      | true ↦ λ p.
          let less : s.end < seq = grind (arith, nat_tests) in
          let is_max : seq ≡ max seq s.end = omega (arith, less) in
          end_after (record s { filed = s.filed ++ f ∷ []; end = seq }) rest ∙ ap (λ m. greatest m numbers) is_max ∙ greatest-max seq s.end numbers
      | false ↦ λ p.
          let limit : seq ≤ s.end = grind (arith, nat_tests) in
          let is_max : s.end ≡ max seq s.end = omega (arith, limit) in
          end_after s rest ∙ ap (λ m. greatest m numbers) is_max ∙ greatest-max seq s.end numbers
    ] refl
end_after s (Ack slot applied ∷ rest) =
    end_after (acknowledged s slot applied) rest
    ∙ by_test (λ (t : FeedState). greatest t.end (settled_numbers rest) ≡ greatest s.end (settled_numbers rest))
    (nat_lt slot slot_count && nat_lt (acked_of s slot) applied)
    (record s { acked = set s.acked slot applied }) s (λ _. refl) (λ _. refl)
end_after s (NewEpoch slot ∷ rest) =
    end_after (new_epoch s slot) rest
    ∙ by_test (λ (t : FeedState). greatest t.end (settled_numbers rest) ≡ greatest s.end (settled_numbers rest)) (nat_lt slot slot_count)
    (record s { acked = set s.acked slot s.base }) s (λ _. refl) (λ _. refl)
end_after s (Push slot ∷ rest) = end_after s rest
end_after s (Tick ∷ rest) = end_after s rest

-- an acknowledgement counts where the slot gets no new epoch later
ack_counts : (one renewed : Bool) (base was told n : ℕ) (acks : List ℕ) → (one ≡ true → told ≡ max n was) → (one ≡ false → told ≡ was)
    → greatest (cond renewed base told) acks ≡ greatest (cond renewed base was) (cond (one && not renewed) (n ∷ acks) acks)
ack_counts true true base was told n acks own other = refl
ack_counts true false base was told n acks own other = ap (λ m. greatest m acks) (own refl) ∙ greatest-max n was acks
ack_counts false true base was told n acks own other = refl
ack_counts false false base was told n acks own other = ap (λ m. greatest m acks) (other refl)

-- after a new epoch the base is what the slot has
renewal_counts : (one renewed : Bool) (base was told : ℕ) (acks : List ℕ) → (one ≡ true → told ≡ base) → (one ≡ false → told ≡ was)
    → greatest (cond renewed base told) acks ≡ greatest (cond (one || renewed) base was) acks
renewal_counts true true base was told acks own other = refl
renewal_counts true false base was told acks own other = ap (λ m. greatest m acks) (own refl)
renewal_counts false true base was told acks own other = refl
renewal_counts false false base was told acks own other = ap (λ m. greatest m acks) (other refl)

acks_after : (slot : ℕ) → slot < slot_count → (s : FeedState) → length s.acked ≡ slot_count → (inputs : List In)
    → get_or (later s inputs).acked slot 0 ≡ greatest (cond (list_any (renews slot) inputs) s.base (get_or s.acked slot 0)) (acks_since slot inputs)
acks_after slot l s eight [] = refl
acks_after slot l s eight (Settled seq rows ∷ rest) =
    let more : FeedState = record s { filed = s.filed ++ record { seq = seq; rows = rows } ∷ []; end = seq } in
    by_test (λ (t : FeedState). get_or (later t rest).acked slot 0 ≡ greatest (cond (list_any (renews slot) rest) s.base (get_or s.acked slot 0))
    (acks_since slot rest)) (nat_lt s.end seq) more s
    (λ _. acks_after slot l more eight rest) (λ _. acks_after slot l s eight rest)
acks_after slot l s eight (Ack acker n ∷ rest) =
    let t : FeedState = acknowledged s acker n in
    let renewed : Bool = list_any (renews slot) rest in
    acks_after slot l t (kept_eight s (Ack acker n) eight) rest
    ∙ ap (λ b. greatest (cond renewed b (get_or t.acked slot 0)) (acks_since slot rest)) (kept_base s (Ack acker n))
    ∙ ack_counts (acker == slot) renewed s.base (get_or s.acked slot 0) (get_or t.acked slot 0) n (acks_since slot rest) (ack_own slot l s eight acker n)
    (ack_other slot l s eight acker n)
acks_after slot l s eight (NewEpoch other ∷ rest) =
    let t : FeedState = new_epoch s other in
    let renewed : Bool = list_any (renews slot) rest in
    acks_after slot l t (kept_eight s (NewEpoch other) eight) rest
    ∙ ap (λ b. greatest (cond renewed b (get_or t.acked slot 0)) (acks_since slot rest)) (kept_base s (NewEpoch other))
    ∙ renewal_counts (other == slot) renewed s.base (get_or s.acked slot 0) (get_or t.acked slot 0) (acks_since slot rest) (renew_own slot l s eight other)
    (renew_other slot l s eight other)
acks_after slot l s eight (Push asked ∷ rest) = acks_after slot l s eight rest
acks_after slot l s eight (Tick ∷ rest) = acks_after slot l s eight rest

-- ---- many inputs, from the start

pub record IsAfter (base : ℕ) (inputs : List In) (s : FeedState) : Type 0 where
  pub base_is : s.base ≡ base
  pub filed_is : s.filed ≡ filed_by base inputs
  pub end_is : s.end ≡ end_of base inputs
  pub eight : length s.acked ≡ slot_count
  pub acked_is : (slot : ℕ) → slot < slot_count → get_or s.acked slot 0 ≡ acknowledged_by base slot inputs

either_base : (renewed : Bool) (base was : ℕ) → was ≡ base → cond renewed base was ≡ base
either_base true base was fact = refl
either_base false base was fact = fact

pub is_after : (base : ℕ) (inputs : List In) → IsAfter base inputs (state_after base inputs)
is_after base inputs = record {
  base_is = base_after (feed_start base) inputs;
  filed_is = filed_after (feed_start base) inputs;
  end_is = end_after (feed_start base) inputs;
  eight = eight_after (feed_start base) inputs refl;
  acked_is = λ slot l.
      acks_after slot l (feed_start base) refl inputs
      ∙ ap (λ m. greatest m (acks_since slot inputs))
      (either_base (list_any (renews slot) inputs) base (get_or (feed_start base).acked slot 0) (get_or-replicate slot_count slot base 0 l));
}

pub acked_after : (base : ℕ) (inputs : List In) (s : FeedState) → IsAfter base inputs s → (slot : ℕ) → slot < slot_count
    → acked_of s slot ≡ acknowledged_by base slot inputs
acked_after base inputs s k slot l = acked_in s slot l ∙ k.acked_is slot l

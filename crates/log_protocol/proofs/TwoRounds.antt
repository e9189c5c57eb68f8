-- A segment that two rounds missed was torn between them.
use Rattle.std.proofs.Common.{◌≡◌, ℕ, zero, suc, ◌<◌, ◌≤◌, ◌==◌, if◌then◌else◌, ◌⊎◌, inl, inr, refl, sym, ap, ◌∙◌, arith}
use Rattle.std.proofs.lemmas.Bool.Decides.{nat_tests}
use Rattle.log_protocol.specs.State.{State}
use Rattle.log_protocol.specs.Step.{Steps}
use Rattle.log_protocol.specs.LogLaws.{Reached}
use Rattle.log_protocol.specs.Counting.{count}
use Rattle.log_protocol.specs.LossLaws.{Missed, MissedTwice, Whole, ReadBy, TornBetween}
use Rattle.log_protocol.proofs.Invariant.{Invariant}
use Rattle.log_protocol.proofs.Induction.{always}
use Rattle.log_protocol.proofs.Growth.{run_grows}
use Rattle.log_protocol.proofs.Interval.{interval}

-- who is counted by one flag and has another is counted by that one
flagged : (f g : ℕ → ℕ) (n : ℕ) → ((i : ℕ) → i < n → 0 < f i → g i ≡ 1) → count f n ≤ count g n
flagged f g zero up = omega arith
flagged f g (suc n) up = let a = flagged f g n (λ i h k. up i (omega arith) k) in go (f n) refl a
  where
    go : (k : ℕ) → f n ≡ k → count f n ≤ count g n → count f (suc n) ≤ count g (suc n)
    go zero e a = omega arith
    go (suc k) e a = let b = up n (omega arith) (omega arith) in omega arith

-- a server that missed the name in both rounds lacked it between
missed_between : (s m u : State) (v g x : ℕ) → Invariant s → Missed s m v g x → Missed m u v g x → (u.dropped x ≡ 1 → ⊥) → m.holds v x ≡ 1 → ⊥
missed_between s m u v g x i one two kept =
    let a = run_grows s one.moment one.began i in
    let b = run_grows one.moment m one.ended a.0 in
    let c = run_grows m two.moment two.began b.0 in
    let d = run_grows two.moment u two.ended c.0 in
    (interval one.moment m two.moment one.ended two.began a.0 v x (two.in_generation ∙ sym one.in_generation) two.lacks
    (λ z. kept (d.1.dropped x (c.0.shelf.secured.marked_dropped v x z)))).1

abbrev lack : State → ℕ → ℕ → ℕ
lack m x j = if m.holds (m.member_server x j) x == 1 then 0 else 1

pub torn_between_always : (s m u : State) (x spare : ℕ) → Reached s → Steps s m → Steps m u → MissedTwice s m u x spare → (u.dropped x ≡ 1 → ⊥)
    → TornBetween m x spare
torn_between_always s m u x spare reached before after twice kept =
    let i = always s reached in
    let g = run_grows s m before i in
    let h = run_grows m u after g.0 in
    let k = flagged twice.member (lack m x) (m.member_count x)
    (λ j member some. lacks j
    (missed_between s m u (m.member_server x j) (twice.generation j) x i (twice.first j member some) (twice.second j member some) kept)) in
    record { torn = (let z = twice.many in omega arith); kept = λ dropped. kept (h.1.dropped x dropped) }
  where
    lacks : (j : ℕ) → (m.holds (m.member_server x j) x ≡ 1 → ⊥) → lack m x j ≡ 1
    lacks j none = grind (arith, nat_tests)

-- what an opening reads back is whole, unless it was dropped
read_secured : (m : State) (x j : ℕ) → Invariant m → ReadBy m x → m.secured x j ≡ 1
read_secured m x j i (some, inl base) = ap (λ z. m.secured z j) base.2 ∙ i.shelf.priors.base_secured j base.0 base.1 (let k = base.2 in omega arith)
read_secured m x j i (some, inr chain) = ap (λ z. m.secured z j) (sym chain.2) ∙ i.shelf.priors.prior_secured chain.0 j chain.1 (let k = chain.2 in omega arith)

pub whole_when_read_always : (m : State) (x : ℕ) → Reached m → ReadBy m x → m.dropped x ≡ 0 → Whole m x
whole_when_read_always m x reached read kept j member = go (m.holds (m.member_server x j) x) refl
  where
    i : Invariant m
    i = always m reached

    flag : m.holds (m.member_server x j) x ≤ 1
    flag = i.shelf.texts.held_flag (m.member_server x j) x

    go : (h : ℕ) → m.holds (m.member_server x j) x ≡ h → (m.holds (m.member_server x j) x ≡ 1) ⊎ (m.member_generation x j < m.generation (m.member_server x j))
    go zero e = inr (i.shelf.secured.secured_held x j (read_secured m x j i read) kept member e)
    go (suc h) e = inl (let f = flag in omega arith)

-- a segment that isn't below a later horizon was not dropped
pub not_dropped_always : (u z : State) (x : ℕ) → Reached u → Steps u z → z.low ≤ z.seq_of x → u.dropped x ≡ 0
not_dropped_always u z x reached after above =
    let i = always u reached in
    let g = (run_grows u z after i).1 in
    let a = i.shelf.horizons.dropped_below x in
    let b = g.low in
    let c = g.seq_of x in
    grind (arith)

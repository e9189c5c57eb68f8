-- Members of the newest segment that are hurt: they were so before some steps, or lacked their fragment at a moment among them.
use Rattle.std.proofs.lemmas.Bool.Decides.{nat_tests}
use Rattle.std.proofs.Common.{◌≡◌, ⊎_elim, ℕ, zero, suc, ◌≤◌, ◌<◌, ◌⊎◌, refl, sym, ap, ◌∙◌, inl, inr, arith, Bool, true, false, nat_lt}
use Rattle.log_protocol.specs.Phase
use Rattle.log_protocol.specs.LogLaws.{Reached}
use Rattle.log_protocol.specs.State.{State, new_log}
use Rattle.log_protocol.specs.Step.{Step, Steps}
use Rattle.log_protocol.specs.Step.Step.{Crashes, Restarts, Begins, Picks_none, Picks_kept, Picks_prior, Opens, Serves}
use Rattle.log_protocol.specs.Step.Steps.{Done, More}
use Rattle.log_protocol.specs.StepLaws.{InSpan, HurtBefore, LacksHead}
use Rattle.log_law.specs.Below.{Below}

-- ---- an owner that serves is in no span

abbrev Idle : State → Type 0
Idle w = w.clean ≡ 1 → w.phase ≡ Phase.serving → w.spanning ≡ 0

clash : (n m : ℕ) → n ≡ m → (n ≡ m → ⊥) → ⊥
clash n m e f = f e

no_four : (n : ℕ) → n < 4 → n ≡ 4 → ⊥
no_four n a b = omega arith

zero_one : (n : ℕ) → n ≡ 0 → n ≡ 1 → ⊥
zero_one n a b = omega arith

step_idle : (w u : State) → Step w u → Idle w → Idle u
step_idle w u Crashes h = λ clean four. absurd (no_four 0 (omega arith) four)
step_idle w u (Restarts can) h = λ clean four. absurd (zero_one 0 refl clean)
step_idle w u (Begins can) h = λ clean four. absurd (no_four 1 (omega arith) four)
step_idle w u (Picks_none list_of low can) h = λ clean four. absurd (no_four 2 (omega arith) four)
step_idle w u (Picks_kept list_of low x can) h = λ clean four. absurd (no_four 2 (omega arith) four)
step_idle w u (Picks_prior list_of low x i can) h = λ clean four. absurd (no_four 2 (omega arith) four)
step_idle w u (Opens x text count server can) h = λ clean four. absurd (no_four 3 (omega arith) four)
step_idle w u (Serves path lowest sure can) h = λ clean four. refl
step_idle w u step h = h

pub idle : (w : State) → Reached w → Idle w
idle w reached = all w reached.run
  where
    all : (v : State) → Steps (new_log w.servers w.seq_of w.incarnation_of w.attempt_of) v → Idle v
    all v Done = λ clean four. refl
    all v (More {v = u} run step) = step_idle u v step (all u run)

-- ---- where a hurt member lacked its fragment

-- at some moment between, the member lacked its fragment of the head that there is at the end
pub record Lacked (w u : State) (i : ℕ) : Type 0 where
  pub moment : State
  pub before : Steps w moment
  pub later : Steps moment u
  pub head : moment.head ≡ u.head
  pub line : moment.line moment.head ≡ u.line u.head
  pub lacks : LacksHead moment i

pub earned_through : (k : Below) (w u : State) → Reached w → Steps w u → u.clean ≡ 1 → (i : ℕ) → InSpan u → 0 < u.head → u.span_low ≤ u.head → 0 < u.hurt i
    → HurtBefore w u i ⊎ Lacked w u i
earned_through k w u reached Done clean i span some low hurt = inl (record { span = span; span_low = refl; head = refl; line = refl; hurt = hurt })
earned_through k w u reached (More {v = v} run step) clean i span some low hurt =
    ⊎_elim (λ b. before
    (earned_through k w v reached run clean_v i b.span (let e = b.head in omega arith) (let e = b.head in let s = b.span_low in omega arith) b.hurt) b) now
    (k.protocol.earned v u reached_v step clean_v i span some low hurt)
  where
    reached_v : Reached v
    reached_v = k.protocol.goes_on w v reached run

    clean_v : v.clean ≡ 1
    clean_v = (k.protocol.past v u reached_v (More Done step)).clean clean

    now : LacksHead u i → HurtBefore w u i ⊎ Lacked w u i
    now l = inr (record { moment = u; before = More run step; later = Done; head = refl; line = refl; lacks = l })

    before : HurtBefore w v i ⊎ Lacked w v i → HurtBefore v u i → HurtBefore w u i ⊎ Lacked w u i
    before earlier b = ⊎_elim still lacked earlier
      where
        still : HurtBefore w v i → HurtBefore w u i ⊎ Lacked w u i
        still a = inl (record { span = a.span; span_low = b.span_low ∙ a.span_low; head = b.head ∙ a.head; line = b.line ∙ a.line; hurt = a.hurt })

        lacked : Lacked w v i → HurtBefore w u i ⊎ Lacked w u i
        lacked a = inr
            (record {
              moment = a.moment;
              before = a.before;
              later = More a.later step;
              head = a.head ∙ sym b.head;
              line = a.line ∙ sym b.line;
              lacks = a.lacks;
            })

-- ---- one of the members isn't hurt, or all are

last : (i c : ℕ) → i < suc c → (i < c) ⊎ (i ≡ c)
last i c less = by (nat_lt i c) refl
  where
    by : (t : Bool) → nat_lt i c ≡ t → (i < c) ⊎ (i ≡ c)
    by true e = inl (grind (arith, nat_tests))
    by false e = inr (grind (arith, nat_tests))

pub some_unhurt : (hurt : ℕ → ℕ) (count : ℕ) → ((i : ℕ) × (i < count) × (hurt i ≡ 0)) ⊎ ((i : ℕ) → i < count → 0 < hurt i)
some_unhurt hurt zero = inr (λ i less. absurd (omega arith))
some_unhurt hurt (suc c) = by (hurt c) refl (some_unhurt hurt c)
  where
    by : (n : ℕ) → hurt c ≡ n → ((i : ℕ) × (i < c) × (hurt i ≡ 0)) ⊎ ((i : ℕ) → i < c → 0 < hurt i)
        → ((i : ℕ) × (i < suc c) × (hurt i ≡ 0)) ⊎ ((i : ℕ) → i < suc c → 0 < hurt i)
    by n fact (inl a) = inl (a.0, (let b = a.1 in omega arith), a.2)
    by zero fact (inr all) = inl (c, omega arith, fact)
    by (suc n) fact (inr all) = inr each
      where
        each : (i : ℕ) → i < suc c → 0 < hurt i
        each i less = ⊎_elim (λ below. all i below) (λ same. (let e = ap hurt same in omega arith)) (last i c less)

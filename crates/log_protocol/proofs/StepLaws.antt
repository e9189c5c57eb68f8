-- Single steps: what is booked is new, what an opening files, and how a member of the head comes to be hurt.
use Rattle.std.proofs.Common.{◌≡◌, ℕ, zero, suc, ◌<◌, ◌≤◌, ◌⊎◌, inl, inr, refl, arith}
use Rattle.std.proofs.lemmas.Bool.Decides.{nat_tests}
use Rattle.log_protocol.specs.Phase
use Rattle.log_protocol.specs.State.{State}
use Rattle.log_protocol.specs.ServerSteps.{loses}
use Rattle.log_protocol.specs.OpeningSteps.{begins, CanServe, serves}
use Rattle.log_protocol.specs.Step.{Step}
use Rattle.log_protocol.specs.Step.Step.{Loses, Raises, Seals, Settles, Crashes, Restarts, Begins, Picks_none, Picks_kept, Picks_prior, Cuts, Opens, Serves}
use Rattle.log_protocol.specs.LogLaws.{Reached}
use Rattle.log_protocol.specs.StepLaws.{NamesNew, FilesWhatWasRead, InSpan, HurtBefore, LacksHead, HurtEarned}
use Rattle.log_protocol.proofs.Invariant.{Invariant}
use Rattle.log_protocol.proofs.Induction.{always}
use Rattle.log_protocol.proofs.NewNames.{new_seal, new_restripe, new_opening}
use Rattle.log_protocol.proofs.ReadChain.{Chain, chain_read}

pub names_new_always : (w : State) → Reached w → NamesNew w
names_new_always w reached = let b = (always w reached).shelf.boots in record {
  sealed = λ x count server can. new_seal w x count server can b;
  restriped = λ x count server can. new_restripe w x count server can b;
  opened = λ x count server can. new_opening w x count server can b;
}

-- a segment that was read is filed
read_filed : (w : State) (path : ℕ → ℕ) (lowest sure q x : ℕ) → lowest ≤ q → q < w.opening_seq → w.seq_of x ≡ q → path q ≡ x
    → (serves w path lowest sure).filed x ≡ 1
read_filed w path lowest sure q x above below seq same = grind (arith, nat_tests)

filed_before : (w : State) (path : ℕ → ℕ) (lowest sure x : ℕ) → w.filed x ≡ 1 → (serves w path lowest sure).filed x ≡ 1
filed_before w path lowest sure x filed = grind (arith, nat_tests)

flight_filed : (w : State) (path : ℕ → ℕ) (lowest sure : ℕ) → (serves w path lowest sure).filed w.flight ≡ 1
flight_filed w path lowest sure = grind (arith, nat_tests)

no_more_filed : (w : State) (path : ℕ → ℕ) (lowest sure x : ℕ) → (serves w path lowest sure).filed x ≡ 1
    → (w.filed x ≡ 1) ⊎ ((x ≡ w.flight) ⊎ ((lowest ≤ w.seq_of x) × (w.seq_of x < w.opening_seq) × (path (w.seq_of x) ≡ x)))
no_more_filed w path lowest sure x filed = grind (arith, nat_tests)

pub files_what_was_read_always : (w : State) (path : ℕ → ℕ) (lowest sure : ℕ) → Reached w → CanServe w path lowest sure → FilesWhatWasRead w path lowest sure
files_what_was_read_always w path lowest sure reached can =
    let s = (always w reached).shelf in
    let chain : Chain w path lowest = chain_read w path lowest can.writing s.horizons s.priors can.read in
    record {
      read = λ q above below. (read_filed w path lowest sure q (path q) above below (chain.seq q above below) refl, chain.seq q above below);
      opening = flight_filed w path lowest sure;
      before = filed_before w path lowest sure;
      no_more = no_more_filed w path lowest sure;
    }

-- a loss hurts who was hurt, and the member that lacks the head by it
lost_hurt : (w : State) (v i : ℕ) → InSpan w → 0 < (loses w v).hurt i → HurtBefore w (loses w v) i ⊎ LacksHead (loses w v) i
lost_hurt w v i span hurt = by (w.hurt i) refl
  where
    by : (h : ℕ) → w.hurt i ≡ h → HurtBefore w (loses w v) i ⊎ LacksHead (loses w v) i
    by zero e = inr (record { lacks = grind (arith, nat_tests); kept = grind (arith, nat_tests) })
    by (suc h) e = inl (record { span = span; span_low = refl; head = refl; line = refl; hurt = omega arith })

-- a Begin that goes on with a span leaves who was hurt; one that starts a span counts who lacks the head now
begun_hurt : (w : State) (i : ℕ) → w.phase ≡ Phase.down → Invariant w → w.clean ≡ 1 → 0 < w.head → (begins w).span_low ≤ w.head → 0 < (begins w).hurt i
    → HurtBefore w (begins w) i ⊎ LacksHead (begins w) i
begun_hurt w i down inv clean some low hurt = by (w.spanning) refl
  where
    dropped_below : 0 < w.dropped (w.line w.head) → w.seq_of (w.line w.head) < w.low
    dropped_below = inv.shelf.horizons.dropped_below (w.line w.head)

    head_seq : w.seq_of (w.line w.head) ≡ w.head
    head_seq = (inv.line clean).head_seq

    by : (n : ℕ) → w.spanning ≡ n → HurtBefore w (begins w) i ⊎ LacksHead (begins w) i
    by zero e = inr (record { lacks = grind (arith, nat_tests); kept = grind (arith, nat_tests) })
    by (suc n) e =
        inl (record {
          span = record { not_serving = omega arith; begun = inr (omega arith) };
          span_low = grind (arith, nat_tests);
          head = refl;
          line = refl;
          hurt = grind (arith, nat_tests);
        })

-- an owner that falls in a span was in it before
fell_in_span : (w : State) → Invariant w → w.clean ≡ 1 → 0 < w.spanning → InSpan w
fell_in_span w inv clean on =
    record { not_serving = (let r = inv.shelf.boots.phase_rank in let s = (inv.spans clean).no_span_serving in grind (arith)); begun = inr on }

-- so does one whose opening goes on
opening_in_span : (w : State) → Phase.down < w.phase → w.phase < Phase.serving → InSpan w
opening_in_span w some less = record { not_serving = less; begun = inl some }

no_crash : (n : ℕ) → (0 < 0) ⊎ (0 < n) → 0 < n
no_crash n (inl h) = absurd (omega arith)
no_crash n (inr h) = h

step_hurt : (w u : State) → Step w u → Invariant w → w.clean ≡ 1 → HurtEarned w u
step_hurt w u (Loses v) inv clean = λ j span some low hurt. lost_hurt w v j (record { not_serving = span.not_serving; begun = span.begun }) hurt
step_hurt w u (Raises low can) inv clean =
    λ j span some within hurt. inl
    (record { span = record { not_serving = span.not_serving; begun = span.begun }; span_low = refl; head = refl; line = refl; hurt = hurt })
step_hurt w u (Seals x text count server content can) inv clean =
    λ j span some low hurt. absurd (let a = can.serving in let b = span.not_serving in omega arith)
step_hurt w u (Settles can) inv clean = λ j span some low hurt. absurd (let a = can.serving in let b = span.not_serving in omega arith)
step_hurt w u Crashes inv clean =
    λ j span some low hurt. inl
    (record { span = fell_in_span w inv clean (no_crash w.spanning span.begun); span_low = refl; head = refl; line = refl; hurt = hurt })
step_hurt w u (Restarts can) inv clean = λ j span some low hurt. absurd (let b = span.not_serving in omega arith)
step_hurt w u (Begins can) inv clean = λ j span some low hurt. begun_hurt w j can.down inv clean some low hurt
step_hurt w u (Picks_none list_of low can) inv clean =
    λ j span some within hurt. inl
    (record { span = (let g = can.gathering in opening_in_span w (omega arith) (omega arith)); span_low = refl; head = refl; line = refl; hurt = hurt })
step_hurt w u (Picks_kept list_of low x can) inv clean =
    λ j span some within hurt. inl
    (record { span = (let g = can.gathering in opening_in_span w (omega arith) (omega arith)); span_low = refl; head = refl; line = refl; hurt = hurt })
step_hurt w u (Picks_prior list_of low x i can) inv clean =
    λ j span some within hurt. inl
    (record { span = (let g = can.gathering in opening_in_span w (omega arith) (omega arith)); span_low = refl; head = refl; line = refl; hurt = hurt })
step_hurt w u (Cuts low can) inv clean =
    λ j span some within hurt. inl
    (record { span = record { not_serving = span.not_serving; begun = span.begun }; span_low = refl; head = refl; line = refl; hurt = hurt })
step_hurt w u (Opens x text count server can) inv clean =
    λ j span some low hurt. inl
    (record { span = (let g = can.reading in opening_in_span w (omega arith) (omega arith)); span_low = refl; head = refl; line = refl; hurt = hurt })
step_hurt w u (Serves path lowest sure can) inv clean = λ j span some low hurt. absurd (let b = span.not_serving in omega arith)
step_hurt w u step inv clean =
    λ j span some low hurt. inl
    (record { span = record { not_serving = span.not_serving; begun = span.begun }; span_low = refl; head = refl; line = refl; hurt = hurt })

pub hurt_earned_always : (w u : State) → Reached w → Step w u → w.clean ≡ 1 → HurtEarned w u
hurt_earned_always w u reached step clean = step_hurt w u step (always w reached) clean

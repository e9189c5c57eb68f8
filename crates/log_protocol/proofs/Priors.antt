-- Priors: the prior of a segment, the end of a serving boot and the base of an opening are secured segments of the seq before, of no later boot.
-- Stands on Boots, Lists, Horizons and Secured. The three are one group: an opening's base comes from a prior, and a prior from an end or a base.
use Rattle.std.proofs.Common.{◌≡◌, ℕ, suc, ◌<◌, ◌≤◌, ◌==◌, if◌then◌else◌, refl, ap, ◌∙◌, arith}
use Rattle.std.proofs.lemmas.Bool.Decides.{nat_tests}
use Rattle.log_protocol.specs.Phase
use Rattle.log_protocol.specs.Packets.{FencedPacket}
use Rattle.log_protocol.specs.State.{State, Names, new_log}
use Rattle.log_protocol.specs.OpeningSteps.{CanPickKept, picks_kept, CanPickPrior, picks_prior}
use Rattle.log_protocol.specs.Step.{Step}
use Rattle.log_protocol.specs.Step.Step.{Seals, Restripes, Settles, Picks_none, Picks_kept, Picks_prior, Opens}
use Rattle.log_protocol.proofs.Boots.{Boots}
use Rattle.log_protocol.proofs.Lists.{Lists}
use Rattle.log_protocol.proofs.Horizons.{Horizons}
use Rattle.log_protocol.proofs.Secured.{Secured}
use Rattle.log_protocol.proofs.PickedWhole.{picked_booked}

pub record Priors (w : State) : Type 0 where
  -- seqs begin at 1
  pub seq_some : (x : ℕ) → w.booked x ≡ 1 → 0 < w.seq_of x
  -- a prior is booked,
  pub prior_booked : (x : ℕ) → w.booked x ≡ 1 → 0 < w.prior_of x → w.booked (w.prior_of x) ≡ 1
  -- of the seq before,
  pub prior_seq : (x : ℕ) → w.booked x ≡ 1 → 0 < w.prior_of x → suc (w.seq_of (w.prior_of x)) ≡ w.seq_of x
  -- of no later boot,
  pub prior_boot : (x : ℕ) → w.booked x ≡ 1 → 0 < w.prior_of x → w.incarnation_of (w.prior_of x) ≤ w.incarnation_of x
  -- and secured whole
  pub prior_secured : (x j : ℕ) → w.booked x ≡ 1 → 0 < w.prior_of x → w.secured (w.prior_of x) j ≡ 1
  -- a segment without one had nothing before it that checkpoints did not cover
  pub no_prior : (x : ℕ) → w.booked x ≡ 1 → w.prior_of x ≡ 0 → w.seq_of x ≤ w.low_when_booked x
  -- the end of a serving boot is booked
  pub end_booked : w.phase ≡ Phase.serving → 0 < w.end → w.booked w.end ≡ 1
  -- and secured whole
  pub end_secured : (j : ℕ) → w.phase ≡ Phase.serving → 0 < w.end → w.secured w.end j ≡ 1
  -- it is the prior of the flight
  pub flight_end : 0 < w.flight → w.phase ≡ Phase.serving → w.prior_of w.flight ≡ w.end
  -- the base is the prior of the opening segment
  pub flight_base : w.phase ≡ Phase.writing → w.prior_of w.flight ≡ w.base
  -- an opening segment has a seq
  pub opening_some : Phase.reading ≤ w.phase → w.phase ≤ Phase.writing → 0 < w.opening_seq
  -- a base is booked,
  pub base_booked : Phase.reading ≤ w.phase → w.phase ≤ Phase.writing → 0 < w.base → w.booked w.base ≡ 1
  -- of the seq before the opening segment,
  pub base_seq : Phase.reading ≤ w.phase → w.phase ≤ Phase.writing → 0 < w.base → suc (w.seq_of w.base) ≡ w.opening_seq
  -- of an earlier boot,
  pub base_boot : Phase.reading ≤ w.phase → w.phase ≤ Phase.writing → 0 < w.base → w.incarnation_of w.base < w.incarnation
  -- and secured whole
  pub base_secured : (j : ℕ) → Phase.reading ≤ w.phase → w.phase ≤ Phase.writing → 0 < w.base → w.secured w.base j ≡ 1
  -- an opening without one has nothing to read back
  pub no_base : Phase.reading ≤ w.phase → w.phase ≤ Phase.writing → w.base ≡ 0 → w.opening_seq ≤ w.pick_low

-- a base for the opening segment: where there is one, it is booked, of the seq before, of an earlier boot, and secured whole
record IsBase (w : State) (base opening low : ℕ) (secured : ℕ → ℕ → ℕ) : Type 0 where
  some : 0 < opening
  booked : 0 < base → w.booked base ≡ 1
  seq : 0 < base → suc (w.seq_of base) ≡ opening
  boot : 0 < base → w.incarnation_of base < w.incarnation
  whole : (j : ℕ) → 0 < base → secured base j ≡ 1
  none : base ≡ 0 → opening ≤ low

-- whatever such base a pick takes, the priors stay
picks_keeps_priors : (w : State) (base opening low : ℕ) (secured : ℕ → ℕ → ℕ) → ((y j : ℕ) → w.secured y j ≡ 1 → secured y j ≡ 1)
    → IsBase w base opening low secured → Priors w
    → Priors (record w { phase = Phase.reading; base = base; opening_seq = opening; read_low = low; pick_low = low; secured = secured })
picks_keeps_priors w base opening low secured more is_base priors = record {
  seq_some = priors.seq_some;
  prior_booked = priors.prior_booked;
  prior_seq = priors.prior_seq;
  prior_boot = priors.prior_boot;
  prior_secured = λ y j k0 k1. more (w.prior_of y) j (priors.prior_secured y j k0 k1);
  no_prior = priors.no_prior;
  end_booked = λ k0 k1. absurd (omega arith);
  end_secured = λ j k0 k1. absurd (omega arith);
  flight_end = λ k0 k1. absurd (omega arith);
  flight_base = λ k0. absurd (omega arith);
  opening_some = λ k0 k1. is_base.some;
  base_booked = λ k0 k1. is_base.booked;
  base_seq = λ k0 k1. is_base.seq;
  base_boot = λ k0 k1. is_base.boot;
  base_secured = λ j k0 k1. is_base.whole j;
  no_base = λ k0 k1. is_base.none;
}

picks_kept_keeps_priors : (w : State) (list_of : ℕ → FencedPacket) (low x : ℕ) → CanPickKept w list_of low x → Names w.seq_of w.incarnation_of w.attempt_of
    → Boots w → Lists w → Horizons w → Secured w → Priors w → Priors (picks_kept w low x)
picks_kept_keeps_priors w list_of low x can names boots lists horizons secured priors =
    let booked : w.booked x ≡ 1 = picked_booked w list_of low x can.gathered can.picked lists in
    let old = boots.no_name_yet x (let h = can.gathering in omega arith) (let h = can.gathering in omega arith) booked in
    picks_keeps_priors w x (suc (w.seq_of x)) low (λ y i. if y == x then 1 else w.secured y i) (λ y j k. grind (arith, nat_tests))
    (record {
      some = omega arith;
      booked = λ k. booked;
      seq = λ k. refl;
      boot = λ k. omega arith;
      whole = λ j k. grind (arith, nat_tests);
      none = λ k. let unnamed : w.seq_of x ≡ 0 = ap w.seq_of k ∙ names.none in let some = priors.seq_some x booked in absurd (omega arith);
    }) priors

picks_prior_keeps_priors : (w : State) (list_of : ℕ → FencedPacket) (low x i : ℕ) → CanPickPrior w list_of low x i
    → Names w.seq_of w.incarnation_of w.attempt_of → Boots w → Lists w → Horizons w → Secured w → Priors w → Priors (picks_prior w low x)
picks_prior_keeps_priors w list_of low x i can names boots lists horizons secured priors =
    let booked : w.booked x ≡ 1 = picked_booked w list_of low x can.gathered can.picked lists in
    let old = boots.no_name_yet x (let h = can.gathering in omega arith) (let h = can.gathering in omega arith) booked in
    let begun = can.gathered.begun in
    picks_keeps_priors w (w.prior_of x) (w.seq_of x) low w.secured (λ y j k. k)
    (record {
      some = priors.seq_some x booked;
      booked = λ k. priors.prior_booked x booked k;
      seq = λ k. priors.prior_seq x booked k;
      boot = λ k. let early = priors.prior_boot x booked k in omega arith;
      whole = λ j k. priors.prior_secured x j booked k;
      none = λ k. let least = priors.no_prior x booked k in let early = horizons.low_before x booked old in omega arith;
    }) priors

pub step_keeps_priors : (w u : State) → Step w u → Names w.seq_of w.incarnation_of w.attempt_of → Boots w → Lists w → Horizons w → Secured w → Priors w
    → Priors u
step_keeps_priors w u (Seals x text count server content can) names boots lists horizons secured priors = grind (arith, nat_tests)
step_keeps_priors w u (Restripes x text count server can) names boots lists horizons secured priors = grind (arith, nat_tests)
step_keeps_priors w u (Settles can) names boots lists horizons secured priors = grind (arith, nat_tests)
step_keeps_priors w u (Picks_none list_of low can) names boots lists horizons secured priors = grind (arith, nat_tests)
step_keeps_priors w u (Picks_kept list_of low x can) names boots lists horizons secured priors =
    picks_kept_keeps_priors w list_of low x can names boots lists horizons secured priors
step_keeps_priors w u (Picks_prior list_of low x i can) names boots lists horizons secured priors =
    picks_prior_keeps_priors w list_of low x i can names boots lists horizons secured priors
step_keeps_priors w u (Opens x text count server can) names boots lists horizons secured priors = grind (arith, nat_tests)
step_keeps_priors w u step names boots lists horizons secured priors = grind (arith, nat_tests)

pub new_log_priors : (servers : ℕ) (seq_of incarnation_of attempt_of : ℕ → ℕ) → Priors (new_log servers seq_of incarnation_of attempt_of)
new_log_priors servers seq_of incarnation_of attempt_of = grind (arith, nat_tests)

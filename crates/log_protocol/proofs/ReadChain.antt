-- What an opening reads back: by seq one booked and secured segment of an earlier boot, each the prior of the next.
use Rattle.std.proofs.Common.{◌≡◌, ℕ, zero, suc, ◌+◌, ◌-◌, ◌<◌, ◌≤◌, sym, subst, arith}
use Rattle.log_protocol.specs.Phase
use Rattle.log_protocol.specs.State.{State}
use Rattle.log_protocol.specs.OpeningSteps.{ReadBack}
use Rattle.log_protocol.proofs.Horizons.{Horizons}
use Rattle.log_protocol.proofs.Priors.{Priors}

pub record Chain (w : State) (path : ℕ → ℕ) (lowest : ℕ) : Type 0 where
  pub booked : (q : ℕ) → lowest ≤ q → q < w.opening_seq → w.booked (path q) ≡ 1
  pub seq : (q : ℕ) → lowest ≤ q → q < w.opening_seq → w.seq_of (path q) ≡ q
  pub boot : (q : ℕ) → lowest ≤ q → q < w.opening_seq → w.incarnation_of (path q) < w.incarnation
  pub secured : (q j : ℕ) → lowest ≤ q → q < w.opening_seq → w.secured (path q) j ≡ 1
  pub prior : (q : ℕ) → lowest ≤ q → suc q < w.opening_seq → w.prior_of (path (suc q)) ≡ path q

-- one name of the chain, at its seq
pub record Link (w : State) (x q : ℕ) : Type 0 where
  pub booked : w.booked x ≡ 1
  pub seq : w.seq_of x ≡ q
  pub boot : w.incarnation_of x < w.incarnation
  pub secured : (j : ℕ) → w.secured x j ≡ 1

pub base_link : (w : State) (q : ℕ) → w.phase ≡ Phase.writing → Priors w → w.pick_low ≤ q → suc q ≡ w.opening_seq → Link w w.base q
base_link w q writing priors above next =
    let a : Phase.reading ≤ w.phase = omega arith in
    let b : w.phase ≤ Phase.writing = omega arith in
    let some : 0 < w.base = grind (arith, priors.no_base a b) in
    record {
      booked = priors.base_booked a b some;
      seq = let s = priors.base_seq a b some in omega arith;
      boot = priors.base_boot a b some;
      secured = λ j. priors.base_secured j a b some;
    }

-- above the horizon a name of the chain has a prior, and was booked when the horizon was no later than now
pub has_prior : (w : State) (x q : ℕ) → w.phase ≡ Phase.writing → Horizons w → Priors w → w.pick_low ≤ q → Link w x (suc q)
    → (w.low_when_booked x ≤ w.pick_low) × (0 < w.prior_of x)
has_prior w x q writing horizons priors above link =
    let low : w.low_when_booked x ≤ w.pick_low =
    (let c = horizons.low_before x link.booked link.boot in let d = horizons.pick_after (omega arith) (omega arith) in omega arith) in
    (low, grind (arith, priors.no_prior x link.booked, link.seq))

pub prior_link : (w : State) (x q : ℕ) → w.phase ≡ Phase.writing → Horizons w → Priors w → w.pick_low ≤ q → Link w x (suc q) → Link w (w.prior_of x) q
prior_link w x q writing horizons priors above link =
    let some = (has_prior w x q writing horizons priors above link).1 in
    record {
      booked = priors.prior_booked x link.booked some;
      seq = let s = priors.prior_seq x link.booked some in let t = link.seq in omega arith;
      boot = let s = priors.prior_boot x link.booked some in let t = link.boot in omega arith;
      secured = λ j. priors.prior_secured x j link.booked some;
    }

-- what was read isn't below the horizon of the pick
pub picked_above : (w : State) (path : ℕ → ℕ) (lowest q : ℕ) → ReadBack w path lowest → lowest ≤ q → w.pick_low ≤ q
picked_above w path lowest q read above = let a = read.picked in omega arith

-- down the chain, by how far q is below the opening segment
pub link_at : (w : State) (path : ℕ → ℕ) (lowest : ℕ) → w.phase ≡ Phase.writing → Horizons w → Priors w → ReadBack w path lowest → (below q : ℕ) → lowest ≤ q
    → suc (q + below) ≡ w.opening_seq → Link w (path q) q
link_at w path lowest writing horizons priors read zero q above e =
    subst (λ x. Link w x q) (sym (read.last q above (omega arith))) (base_link w q writing priors (picked_above w path lowest q read above) (omega arith))
link_at w path lowest writing horizons priors read (suc below) q above e =
    subst (λ x. Link w x q) (sym (read.back q above (omega arith)))
    (prior_link w (path (suc q)) q writing horizons priors (picked_above w path lowest q read above)
    (link_at w path lowest writing horizons priors read below (suc q) (omega arith) (omega arith)))

pub chain_read : (w : State) (path : ℕ → ℕ) (lowest : ℕ) → w.phase ≡ Phase.writing → Horizons w → Priors w → ReadBack w path lowest → Chain w path lowest
chain_read w path lowest writing horizons priors read =
    record {
      booked = λ q a b. (at q a b).booked;
      seq = λ q a b. (at q a b).seq;
      boot = λ q a b. (at q a b).boot;
      secured = λ q j a b. (at q a b).secured j;
      prior = λ q a b. sym (read.back q a b);
    }
  where
    at : (q : ℕ) → lowest ≤ q → q < w.opening_seq → Link w (path q) q
    at q a b = link_at w path lowest writing horizons priors read (w.opening_seq - suc q) q a (omega arith)

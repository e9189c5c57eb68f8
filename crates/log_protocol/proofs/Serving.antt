-- The step that serves, at which the three groups of the line meet: where the premise on losses holds, what was read back is the line as far as the
-- head, and beyond it the new line.
use Rattle.std.proofs.Common.{◌≡◌, ℕ, zero, suc, ◌+◌, ◌-◌, ◌<◌, ◌≤◌, sym, ap, ◌∙◌, subst, arith}
use Rattle.std.proofs.lemmas.Bool.Decides.{nat_tests}
use Rattle.log_protocol.specs.Phase
use Rattle.log_protocol.specs.State.{State}
use Rattle.log_protocol.specs.OpeningSteps.{ReadBack, Undoubted, CanServe, serves}
use Rattle.log_protocol.proofs.ShelfInvariant.{ShelfInvariant}
use Rattle.log_protocol.proofs.ReadChain.{Chain, Link, chain_read, has_prior, link_at, picked_above}
use Rattle.log_protocol.proofs.Line.{Line}
use Rattle.log_protocol.proofs.Spans.{Spans}
use Rattle.log_protocol.proofs.Rising.{Rising}

-- one name of the chain against the line: up to the head it is on it, beyond the head it is of a boot no earlier than the last that served
record Up (w : State) (x q : ℕ) : Type 0 where
  on_line : q ≤ w.head → x ≡ w.line q
  beyond : suc w.head ≤ q → w.pick_low ≤ w.head → w.served ≤ w.incarnation_of x

base_up : (w : State) (q : ℕ) → w.phase ≡ Phase.writing → (w.pick_low ≤ w.head → Rising w) → w.pick_low ≤ q → suc q ≡ w.opening_seq → Up w w.base q
base_up w q writing rising above next =
    let a : Phase.reading ≤ w.phase = omega arith in
    let b : w.phase ≤ Phase.writing = omega arith in
    record {
      on_line = λ k. let r = rising (omega arith) in let s = r.opening_above a b in let t : q ≡ w.head =
          omega arith in r.base_root a b (omega arith) (omega arith) ∙ ap w.line (sym t);
      beyond = λ k0 k1. (rising k1).base_up a b (omega arith) k1;
    }

prior_up : (w : State) (x q : ℕ) → w.phase ≡ Phase.writing → ShelfInvariant w → Line w → (w.pick_low ≤ w.head → Rising w) → w.pick_low ≤ q → Link w x (suc q)
    → Up w x (suc q) → Up w (w.prior_of x) q
prior_up w x q writing shelf line rising above link up =
    let low = (has_prior w x q writing shelf.horizons shelf.priors above link).0 in
    record {
      on_line = λ k. let r =
          rising (omega arith) in
          grind (
            arith,
            line.line_prior q,
            line.next_prior x link.booked,
            r.root x link.booked,
            shelf.horizons.line_before (omega arith),
            shelf.horizons.pick_after (omega arith) (omega arith),
            shelf.boots.served_boot,
            link.seq,
            up.on_line,
            up.beyond,
          );
      beyond = λ k0 k1. let r = rising k1 in grind (arith, r.root_up x link.booked, line.served_next x link.booked, link.seq, up.beyond);
    }

up_at : (w : State) (path : ℕ → ℕ) (lowest : ℕ) → w.phase ≡ Phase.writing → ShelfInvariant w → Line w → (w.pick_low ≤ w.head → Rising w) → ReadBack w path lowest
    → (below q : ℕ) → lowest ≤ q → suc (q + below) ≡ w.opening_seq → Up w (path q) q
up_at w path lowest writing shelf line rising read zero q above e =
    subst (λ x. Up w x q) (sym (read.last q above (omega arith))) (base_up w q writing rising (picked_above w path lowest q read above) (omega arith))
up_at w path lowest writing shelf line rising read (suc below) q above e =
    subst (λ x. Up w x q) (sym (read.back q above (omega arith)))
    (prior_up w (path (suc q)) q writing shelf line rising (picked_above w path lowest q read above)
    (link_at w path lowest writing shelf.horizons shelf.priors read below (suc q) (omega arith) (omega arith))
    (up_at w path lowest writing shelf line rising read below (suc q) (omega arith) (omega arith)))

-- what was read back is the line as far as the head
pub chain_on_line : (w : State) (path : ℕ → ℕ) (lowest : ℕ) → w.phase ≡ Phase.writing → ShelfInvariant w → Line w → (w.pick_low ≤ w.head → Rising w)
    → ReadBack w path lowest → (q : ℕ) → lowest ≤ q → q < w.opening_seq → q ≤ w.head → path q ≡ w.line q
chain_on_line w path lowest writing shelf line rising read q a b =
    (up_at w path lowest writing shelf line rising read (w.opening_seq - suc q) q a (omega arith)).on_line

-- an opening that served and left the log clean was undoubted
pub served_clean : (w : State) (path : ℕ → ℕ) (lowest sure : ℕ) → CanServe w path lowest sure → (serves w path lowest sure).clean ≡ 1
    → (w.clean ≡ 1) × (w.pick_low ≤ w.head → Undoubted w)
served_clean w path lowest sure can clean = go sure can.undoubted clean
  where
    go : (s : ℕ) → (s ≡ 1 → w.pick_low ≤ w.head → Undoubted w) → (serves w path lowest s).clean ≡ 1 → (w.clean ≡ 1) × (w.pick_low ≤ w.head → Undoubted w)
    go zero f z = absurd (omega arith)
    go (suc s) f z = (grind (arith, nat_tests), f (grind (arith, nat_tests)))

-- the opening segment comes after the head, whichever way its pick went
pub opening_after : (w : State) → w.phase ≡ Phase.writing → ShelfInvariant w → (w.pick_low ≤ w.head → Rising w) → suc w.head ≤ w.opening_seq
opening_after w writing shelf rising =
    let seen : w.pick_low ≤ w.head → suc w.head ≤ w.opening_seq = λ k. (rising k).opening_above (omega arith) (omega arith) in
    grind (arith, seen, shelf.horizons.pick_beyond (omega arith) (omega arith))

-- what is filed by then is on the new line
filed_on_line : (w : State) (path : ℕ → ℕ) (lowest sure x : ℕ) → w.seq_of w.flight ≡ w.opening_seq → suc w.head ≤ w.opening_seq
    → (w.filed x ≡ 1 → w.line (w.seq_of x) ≡ x) → (w.filed x ≡ 1 → w.seq_of x ≤ w.head)
    → (lowest ≤ w.seq_of x → w.seq_of x < w.opening_seq → w.seq_of x ≤ w.head → path (w.seq_of x) ≡ w.line (w.seq_of x))
    → (serves w path lowest sure).filed x ≡ 1 → (serves w path lowest sure).line (w.seq_of x) ≡ x
filed_on_line w path lowest sure x seq above old_line old_head same filed = grind (arith, nat_tests)

pub serves_keeps_line : (w : State) (path : ℕ → ℕ) (lowest sure : ℕ) → CanServe w path lowest sure → ShelfInvariant w → Line w → suc w.head ≤ w.opening_seq
    → (w.pick_low ≤ w.head → Rising w) → Line (serves w path lowest sure)
serves_keeps_line w path lowest sure can shelf line after rising =
    let chain : Chain w path lowest = chain_read w path lowest can.writing shelf.horizons shelf.priors can.read in
    let lined = chain_on_line w path lowest can.writing shelf line rising can.read in
    let writing = can.writing in
    record {
      its_end = grind (arith, nat_tests, line.its_end);
      line_none = grind (arith, nat_tests, line.line_none);
      filed_line = λ x k0. filed_on_line w path lowest sure x
          (let f = shelf.boots.opening_flight writing in
          shelf.boots.opening_seq_alone w.flight writing (shelf.boots.flight_booked f) (shelf.boots.flight_boot f)) after (line.filed_line x)
          (line.filed_head x) (lined (w.seq_of x)) k0;
      filed_head = λ x k0. grind (arith, nat_tests, line.filed_head x);
      line_filed = λ q k0 k1. grind (arith, nat_tests, line.line_filed q);
      line_seq = λ q k0 k1. grind (arith, nat_tests, line.line_seq q);
      head_seq = grind (arith, nat_tests, line.head_seq);
      line_prior = λ q k0 k1. grind (arith, nat_tests, line.line_prior q);
      line_boot = λ x k0. grind (arith, nat_tests, line.line_boot x);
      head_boot = λ k0. grind (arith, nat_tests, line.head_boot);
      head_attempt = λ x k0 k1 k2. grind (arith, nat_tests, line.head_attempt x);
      low_head = grind (arith, nat_tests, line.low_head);
      served_next = λ x k0 k1. grind (arith, nat_tests, line.served_next x);
      next_prior = λ x k0 k1 k2. grind (arith, nat_tests, line.next_prior x);
      feed_line = λ q k0 k1 k2. grind (arith, nat_tests, line.feed_line q);
    }

pub serves_keeps_spans : (w : State) (path : ℕ → ℕ) (lowest sure : ℕ) → CanServe w path lowest sure → ShelfInvariant w → Line w → Spans w
    → suc w.head ≤ w.opening_seq → (w.pick_low ≤ w.head → Rising w) → Spans (serves w path lowest sure)
serves_keeps_spans w path lowest sure can shelf line spans after rising =
    let chain : Chain w path lowest = chain_read w path lowest can.writing shelf.horizons shelf.priors can.read in
    let lined = chain_on_line w path lowest can.writing shelf line rising can.read in
    let writing = can.writing in
    record {
      hurt_head = λ j k0 k1 k2 k3. grind (arith, nat_tests, spans.hurt_head j);
      unlisted_hurt = λ p j k0 k1 k2 k3 k4 k5 k6 k7. grind (arith, nat_tests, spans.unlisted_hurt p j);
      unlisted_later = λ p j k0 k1 k2 k3 k4 k5 k6 k7. grind (arith, nat_tests, spans.unlisted_later p j);
      original_unhurt = λ j k0 k1 k2. grind (arith, nat_tests, spans.original_unhurt j);
      no_span = λ x k0 k1. grind (arith, nat_tests, spans.no_span x);
      no_span_serving = λ k0. grind (arith, nat_tests, spans.no_span_serving);
      content_head = λ x k0 k1 k2. grind (arith, nat_tests, spans.content_head x);
    }

pub serves_keeps_rising : (w : State) (path : ℕ → ℕ) (lowest sure : ℕ) → CanServe w path lowest sure → ShelfInvariant w → Line w → suc w.head ≤ w.opening_seq
    → (w.pick_low ≤ w.head → Rising w) → Rising (serves w path lowest sure)
serves_keeps_rising w path lowest sure can shelf line after rising =
    let chain : Chain w path lowest = chain_read w path lowest can.writing shelf.horizons shelf.priors can.read in
    let lined = chain_on_line w path lowest can.writing shelf line rising can.read in
    let writing = can.writing in
    record {
      above = λ x k0 k1. grind (arith, nat_tests);
      root = λ x k0 k1 k2 k3. grind (arith, nat_tests);
      root_up = λ x k0 k1 k2 k3. grind (arith, nat_tests);
      opening_above = λ k0 k1. grind (arith, nat_tests);
      base_root = λ k0 k1 k2 k3. grind (arith, nat_tests);
      base_up = λ k0 k1 k2 k3. grind (arith, nat_tests);
    }

-- Horizons: how the least horizons that are remembered stand to each other. The least horizon never falls.
-- Stands on nothing.
use Rattle.std.proofs.Common.{◌≡◌, ℕ, suc, ◌<◌, ◌≤◌, arith}
use Rattle.std.proofs.lemmas.Bool.Decides.{nat_tests}
use Rattle.log_protocol.specs.Phase
use Rattle.log_protocol.specs.State.{State, new_log}
use Rattle.log_protocol.specs.Step.{Step}
use Rattle.log_protocol.specs.Step.Step.{Drops, Raises, Seals, Restripes, Settles, Picks_none, Picks_kept, Picks_prior, Cuts, Opens, Serves}

pub record Horizons (w : State) : Type 0 where
  -- that of a booking is past
  pub low_then : (x : ℕ) → w.booked x ≡ 1 → w.low_when_booked x ≤ w.low
  -- that of a name of an earlier boot is no later than the last Begin
  pub low_before : (x : ℕ) → w.booked x ≡ 1 → w.incarnation_of x < w.incarnation → w.low_when_booked x ≤ w.begin_low
  -- that of the last Begin is past
  pub begin_past : w.begin_low ≤ w.low
  -- the span began no later than the last Begin
  pub span_before : w.span_low ≤ w.begin_low
  -- that of the last opening that served is past
  pub line_past : w.line_low ≤ w.low
  -- and while the log is being opened no later than the last Begin
  pub line_before : Phase.down < w.phase → w.phase < Phase.serving → w.line_low ≤ w.begin_low
  -- seqs begin at 1
  pub low_some : 1 ≤ w.low
  -- at a Begin too
  pub begin_some : 1 ≤ w.begin_low
  -- an opening picks by a horizon no older than its Begin
  pub pick_after : Phase.reading ≤ w.phase → w.phase ≤ Phase.writing → w.begin_low ≤ w.pick_low
  -- and reads back to one no older than that of its pick
  pub pick_before : Phase.reading ≤ w.phase → w.phase ≤ Phase.writing → w.pick_low ≤ w.read_low
  -- that is past
  pub read_past : Phase.reading ≤ w.phase → w.phase ≤ Phase.writing → w.read_low ≤ w.low
  -- where the pick's horizon was beyond the head, so is the opening segment
  pub pick_beyond : Phase.reading ≤ w.phase → w.phase ≤ Phase.writing → suc w.head ≤ w.pick_low → suc w.head ≤ w.opening_seq
  -- what was dropped is below the least horizon
  pub dropped_below : (x : ℕ) → 0 < w.dropped x → w.seq_of x < w.low
  -- and was booked
  pub dropped_booked : (x : ℕ) → 0 < w.dropped x → w.booked x ≡ 1
  -- a serving owner has in its feed all that checkpoints do not cover
  pub feed_covered : w.phase ≡ Phase.serving → w.feed_base < w.low

pub step_keeps_horizons : (w u : State) → Step w u → Horizons w → Horizons u
step_keeps_horizons w u (Drops x can) horizons = grind (arith, nat_tests)
step_keeps_horizons w u (Raises low can) horizons = grind (arith, nat_tests)
step_keeps_horizons w u (Seals x text count server content can) horizons = grind (arith, nat_tests)
step_keeps_horizons w u (Restripes x text count server can) horizons = grind (arith, nat_tests)
step_keeps_horizons w u (Settles can) horizons = grind (arith, nat_tests)
step_keeps_horizons w u (Picks_none list_of low can) horizons = grind (arith, nat_tests)
step_keeps_horizons w u (Picks_kept list_of low x can) horizons = let a = can.gathered in let b = can.picked.above in grind (arith, nat_tests)
step_keeps_horizons w u (Picks_prior list_of low x i can) horizons = let a = can.gathered in let b = can.picked.above in grind (arith, nat_tests)
step_keeps_horizons w u (Cuts low can) horizons = grind (arith, nat_tests)
step_keeps_horizons w u (Opens x text count server can) horizons = grind (arith, nat_tests)
step_keeps_horizons w u (Serves path lowest sure can) horizons = grind (arith, nat_tests)
step_keeps_horizons w u step horizons = grind (arith, nat_tests)

pub new_log_horizons : (servers : ℕ) (seq_of incarnation_of attempt_of : ℕ → ℕ) → Horizons (new_log servers seq_of incarnation_of attempt_of)
new_log_horizons servers seq_of incarnation_of attempt_of = grind (arith, nat_tests)

-- Boots: which names the owner's present boot has given, and in which phase. So each name that it gives is new.
-- Stands on nothing.
use Rattle.std.proofs.Common.{◌≡◌, ℕ, suc, ◌<◌, ◌≤◌, arith}
use Rattle.std.proofs.lemmas.Bool.Decides.{nat_tests}
use Rattle.log_protocol.specs.Phase
use Rattle.log_protocol.specs.State.{State, new_log}
use Rattle.log_protocol.specs.Step.{Step}
use Rattle.log_protocol.specs.Step.Step.{Loses, Seals, Restripes, Settles, Begins, Picks_none, Picks_kept, Picks_prior, Opens, Serves}

pub record Boots (w : State) : Type 0 where
  -- no name is of a boot to come
  pub booked_boot : (x : ℕ) → w.booked x ≡ 1 → w.incarnation_of x ≤ w.incarnation
  -- the phase is one of the five
  pub phase_rank : w.phase ≤ Phase.serving
  -- until it writes its opening segment, the present boot has given no name
  pub no_name_yet : (x : ℕ) → Phase.down < w.phase → w.phase < Phase.writing → w.booked x ≡ 1 → w.incarnation_of x < w.incarnation
  -- while it writes its opening segment, all its names are attempts of that one
  pub opening_seq_alone : (x : ℕ) → w.phase ≡ Phase.writing → w.booked x ≡ 1 → w.incarnation_of x ≡ w.incarnation → w.seq_of x ≡ w.opening_seq
  -- and the flight is the last attempt
  pub opening_attempt : (x : ℕ) → w.phase ≡ Phase.writing → w.booked x ≡ 1 → w.incarnation_of x ≡ w.incarnation → w.attempt_of x ≤ w.attempt_of w.flight
  -- a serving boot with nothing in flight has given no name beyond its end
  pub written_up_to_end : (x : ℕ) → w.phase ≡ Phase.serving → w.flight ≡ 0 → w.booked x ≡ 1 → w.incarnation_of x ≡ w.incarnation → w.seq_of x ≤ w.seq_of w.end
  -- one with a flight has given at the seq after its end no attempt later than the flight
  pub written_attempt : (x : ℕ) → w.phase ≡ Phase.serving → 0 < w.flight → w.booked x ≡ 1 → w.incarnation_of x ≡ w.incarnation → w.seq_of x ≡ suc (w.seq_of w.end)
      → w.attempt_of x ≤ w.attempt_of w.flight
  -- and nothing beyond that seq
  pub written_next : (x : ℕ) → w.phase ≡ Phase.serving → w.booked x ≡ 1 → w.incarnation_of x ≡ w.incarnation → w.seq_of x ≤ suc (w.seq_of w.end)
  -- a flight is of the present boot
  pub flight_boot : 0 < w.flight → w.incarnation_of w.flight ≡ w.incarnation
  -- there is one only while it writes its opening segment or serves
  pub flight_phase : 0 < w.flight → Phase.writing ≤ w.phase
  -- while it serves, the flight comes after the end
  pub flight_seq : 0 < w.flight → w.phase ≡ Phase.serving → w.seq_of w.flight ≡ suc (w.seq_of w.end)
  -- a flight is booked
  pub flight_booked : 0 < w.flight → w.booked w.flight ≡ 1
  -- an opening segment that is being written is the flight
  pub opening_flight : w.phase ≡ Phase.writing → 0 < w.flight
  -- who serves is the last boot that served
  pub serving : w.phase ≡ Phase.serving → w.incarnation ≡ w.served
  -- who opens its log is a later boot
  pub not_yet_served : Phase.down < w.phase → w.phase < Phase.serving → w.served < w.incarnation
  -- no boot served before it began
  pub served_boot : w.served ≤ w.incarnation

pub step_keeps_boots : (w u : State) → Step w u → Boots w → Boots u
step_keeps_boots w u (Loses v) boots = grind (arith, nat_tests)
step_keeps_boots w u (Seals x text count server content can) boots = grind (arith, nat_tests)
step_keeps_boots w u (Restripes x text count server can) boots = grind (arith, nat_tests)
step_keeps_boots w u (Settles can) boots = grind (arith, nat_tests)
step_keeps_boots w u (Begins can) boots = grind (arith, nat_tests)
step_keeps_boots w u (Picks_none list_of low can) boots = grind (arith, nat_tests)
step_keeps_boots w u (Picks_kept list_of low x can) boots = grind (arith, nat_tests)
step_keeps_boots w u (Picks_prior list_of low x i can) boots = grind (arith, nat_tests)
step_keeps_boots w u (Opens x text count server can) boots = grind (arith, nat_tests)
step_keeps_boots w u (Serves path lowest sure can) boots = grind (arith, nat_tests)
step_keeps_boots w u step boots = grind (arith, nat_tests)

pub new_log_boots : (servers : ℕ) (seq_of incarnation_of attempt_of : ℕ → ℕ) → Boots (new_log servers seq_of incarnation_of attempt_of)
new_log_boots servers seq_of incarnation_of attempt_of = grind (arith, nat_tests)

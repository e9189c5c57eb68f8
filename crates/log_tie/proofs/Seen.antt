-- How the log that its owner writes is seen in the abstract state of its log.
use Rattle.std.specs.Prelude.{ℕ}
use Rattle.log_protocol.specs.State.{State}

-- what a flight that is written, and written again, leaves as it was
pub record Standing : Type 0 where
  pub phase : ℕ
  pub end : ℕ
  pub base : ℕ
  pub opening_seq : ℕ
  pub read_low : ℕ
  pub pick_low : ℕ
  pub clean : ℕ

abbrev pub standing_of : State → Standing
standing_of w =
    record { phase = w.phase; end = w.end; base = w.base; opening_seq = w.opening_seq; read_low = w.read_low; pick_low = w.pick_low; clean = w.clean }

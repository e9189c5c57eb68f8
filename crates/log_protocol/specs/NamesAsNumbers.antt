-- Names as numbers: with incarnation and attempt below a base, a number tells seq, incarnation and attempt.
use Rattle.std.specs.Prelude.{◌≡◌, ℕ, ◌+◌, ◌*◌, ◌/◌, ◌%◌}

abbrev pub code : ℕ → ℕ → ℕ → ℕ → ℕ
code base seq incarnation attempt = (seq * base + incarnation) * base + attempt

abbrev pub code_seq : ℕ → ℕ → ℕ
code_seq base x = (x / base) / base

abbrev pub code_incarnation : ℕ → ℕ → ℕ
code_incarnation base x = (x / base) % base

abbrev pub code_attempt : ℕ → ℕ → ℕ
code_attempt base x = x % base

-- a code tells what was coded
pub record Decodes (base seq incarnation attempt : ℕ) : Type 0 where
  pub its_seq : code_seq base (code base seq incarnation attempt) ≡ seq
  pub its_incarnation : code_incarnation base (code base seq incarnation attempt) ≡ incarnation
  pub its_attempt : code_attempt base (code base seq incarnation attempt) ≡ attempt

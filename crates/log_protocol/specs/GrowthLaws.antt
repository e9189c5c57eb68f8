-- What is proved of two moments of one run.
use Rattle.std.specs.Prelude.{◌≡◌, ℕ, ◌≤◌}
use Rattle.log_protocol.specs.State.{State}

-- What names say and how many servers there are is the same in w and u.
abbrev pub SameNames : State → State → Type 0
SameNames w u = (u.servers ≡ w.servers) × (u.seq_of ≡ w.seq_of) × (u.incarnation_of ≡ w.incarnation_of) × (u.attempt_of ≡ w.attempt_of)

-- The past stays: from w to a later u the book keeps each name with its text, group, prior and content, what is filed or dropped stays so,
-- generations, horizons and boots never fall, and the line of a log that is still clean is only added to.
pub record PastStays (w u : State) : Type 0 where
  pub text : (x : ℕ) → w.booked x ≡ 1 → (u.booked x ≡ 1) × (u.text_of x ≡ w.text_of x)
  pub member_count : (x : ℕ) → w.booked x ≡ 1 → u.member_count x ≡ w.member_count x
  pub member_server : (x i : ℕ) → w.booked x ≡ 1 → u.member_server x i ≡ w.member_server x i
  pub member_generation : (x i : ℕ) → w.booked x ≡ 1 → u.member_generation x i ≡ w.member_generation x i
  pub prior : (x : ℕ) → w.booked x ≡ 1 → u.prior_of x ≡ w.prior_of x
  pub content : (x : ℕ) → w.booked x ≡ 1 → u.content_of x ≡ w.content_of x
  pub filed : (x : ℕ) → w.filed x ≡ 1 → u.filed x ≡ 1
  pub dropped : (x : ℕ) → w.dropped x ≡ 1 → u.dropped x ≡ 1
  pub generation : (v : ℕ) → w.generation v ≤ u.generation v
  pub low : w.low ≤ u.low
  pub incarnation : w.incarnation ≤ u.incarnation
  pub clean : u.clean ≡ 1 → w.clean ≡ 1
  pub head : u.clean ≡ 1 → w.head ≤ u.head
  pub line : (q : ℕ) → u.clean ≡ 1 → q ≤ w.head → u.line q ≡ w.line q

-- The interval: a server that lacks a fragment at the end of an interval and isn't marked for it there, with one generation at both ends, has that
-- generation and lacks the fragment at every moment between.
abbrev pub LacksBetween : State → State → State → Type 0
LacksBetween w m u =
    (v x : ℕ) → u.generation v ≡ w.generation v → u.holds v x ≡ 0 → (u.marked v x ≡ 1 → ⊥) → (m.generation v ≡ w.generation v) × (m.holds v x ≡ 1 → ⊥)

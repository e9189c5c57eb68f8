-- When a segment that two rounds of a reader missed was torn. A round is told by the moments between which its answers were sent.
use Rattle.std.specs.Prelude.{◌≡◌, ℕ, ◌<◌, ◌≤◌, ◌==◌, if◌then◌else◌, ◌⊎◌}
use Rattle.log_protocol.specs.Phase
use Rattle.log_protocol.specs.State.{State}
use Rattle.log_protocol.specs.Step.{Steps}
use Rattle.log_protocol.specs.Counting.{count}

-- between two moments a server answered Missing of a name, in this generation
pub record Missed (before after : State) (v generation x : ℕ) : Type 0 where
  pub moment : State
  pub began : Steps before moment
  pub ended : Steps moment after
  pub in_generation : moment.generation v ≡ generation
  pub lacks : moment.holds v x ≡ 0

-- Two rounds over a segment: the first began after `since` and ended at m, the second began after m and ended at u; more members than `spare`
-- answered Missing in both, each in one generation.
pub record MissedTwice (since m u : State) (x spare : ℕ) : Type 0 where
  -- which members those are, and in which generation each answered
  pub member : ℕ → ℕ
  pub generation : ℕ → ℕ
  pub many : spare < count member (m.member_count x)
  pub first : (i : ℕ) → i < m.member_count x → 0 < member i → Missed since m (m.member_server x i) (generation i) x
  pub second : (i : ℕ) → i < m.member_count x → 0 < member i → Missed m u (m.member_server x i) (generation i) x

-- torn: more members than `spare` lack their fragment at once
abbrev pub Torn : State → ℕ → ℕ → Type 0
Torn w x spare = spare < count (λ i. if w.holds (w.member_server x i) x == 1 then 0 else 1) (w.member_count x)

-- whole: each member holds its fragment, or its server is of a later generation
abbrev pub Whole : State → ℕ → Type 0
Whole w x = (i : ℕ) → i < w.member_count x → (w.holds (w.member_server x i) x ≡ 1) ⊎ (w.member_generation x i < w.generation (w.member_server x i))

-- what an opening reads back: its base, or the prior of a booked segment
abbrev pub ReadBy : State → ℕ → Type 0
ReadBy w x = (0 < x) × (((Phase.reading ≤ w.phase) × (w.phase ≤ Phase.writing) × (x ≡ w.base)) ⊎ ((y : ℕ) × (w.booked y ≡ 1) × (w.prior_of y ≡ x)))

-- A segment that two rounds missed was torn, and not dropped, when the first of them ended.
pub record TornBetween (m : State) (x spare : ℕ) : Type 0 where
  pub torn : Torn m x spare
  pub kept : m.dropped x ≡ 1 → ⊥

-- What is proved of single steps of a run.
use Rattle.std.specs.Prelude.{◌≡◌, ℕ, ◌<◌, ◌≤◌, ◌⊎◌}
use Rattle.log_protocol.specs.Phase
use Rattle.log_protocol.specs.State.{State}
use Rattle.log_protocol.specs.OwnerSteps.{CanSeal, CanRestripe}
use Rattle.log_protocol.specs.OpeningSteps.{CanOpen, serves}

-- Names are new: what a seal, a restripe or an opening may book is not booked yet.
pub record NamesNew (w : State) : Type 0 where
  pub sealed : (x count : ℕ) (server : ℕ → ℕ) → CanSeal w x count server → w.booked x ≡ 1 → ⊥
  pub restriped : (x count : ℕ) (server : ℕ → ℕ) → CanRestripe w x count server → w.booked x ≡ 1 → ⊥
  pub opened : (x count : ℕ) (server : ℕ → ℕ) → CanOpen w x count server → w.booked x ≡ 1 → ⊥

-- Serving files what was read: after an opening that serves, what is filed is what was, the opening segment, and what was read back from `lowest` on,
-- each at its seq.
pub record FilesWhatWasRead (w : State) (path : ℕ → ℕ) (lowest sure : ℕ) : Type 0 where
  pub read : (q : ℕ) → lowest ≤ q → q < w.opening_seq → ((serves w path lowest sure).filed (path q) ≡ 1) × (w.seq_of (path q) ≡ q)
  pub opening : (serves w path lowest sure).filed w.flight ≡ 1
  pub before : (x : ℕ) → w.filed x ≡ 1 → (serves w path lowest sure).filed x ≡ 1
  pub no_more : (x : ℕ) → (serves w path lowest sure).filed x ≡ 1
      → (w.filed x ≡ 1) ⊎ ((x ≡ w.flight) ⊎ ((lowest ≤ w.seq_of x) × (w.seq_of x < w.opening_seq) × (path (w.seq_of x) ≡ x)))

-- A span: the owner is down or opens its log, and has begun since it last served.
pub record InSpan (w : State) : Type 0 where
  pub not_serving : w.phase < Phase.serving
  pub begun : (Phase.down < w.phase) ⊎ (0 < w.spanning)

-- the member was hurt in this span before
pub record HurtBefore (w u : State) (i : ℕ) : Type 0 where
  pub span : InSpan w
  pub span_low : u.span_low ≡ w.span_low
  pub head : u.head ≡ w.head
  pub line : u.line u.head ≡ w.line w.head
  pub hurt : 0 < w.hurt i

-- it lacks its fragment of the head now, and the head isn't dropped
pub record LacksHead (w : State) (i : ℕ) : Type 0 where
  pub lacks : w.holds (w.member_server (w.line w.head) i) (w.line w.head) ≡ 0
  pub kept : w.dropped (w.line w.head) ≡ 0

-- Hurt is earned: over a step, a member of the head that is hurt in a span was so before, or lacks its fragment now, and the head isn't dropped. A
-- head that the horizon passed before the span isn't spoken of.
abbrev pub HurtEarned : State → State → Type 0
HurtEarned w u = (i : ℕ) → InSpan u → 0 < u.head → u.span_low ≤ u.head → 0 < u.hurt i → HurtBefore w u i ⊎ LacksHead u i

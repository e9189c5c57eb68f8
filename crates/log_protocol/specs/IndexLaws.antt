-- What is proved of the index of one block at every moment of every run.
use Rattle.std.specs.Prelude.{◌≡◌, ℕ, ◌<◌, ◌≤◌}
use Rattle.log_protocol.specs.IndexState.{IndexState, Joins, new_block}
use Rattle.log_protocol.specs.IndexSteps.{IndexSteps}

-- a state that some run from a new block reaches
abbrev pub IndexReached : IndexState → Type 0
IndexReached w = IndexSteps (new_block w.cleaner) w

-- The index is the join: `top` is the join of all that is filed, and each active manager's index the join of what it applied; whose epoch has begun.
pub record IndexIsJoin (w : IndexState) : Type 0 where
  pub all : Joins w.version w.hop w.head w.joined
  pub each : (e : ℕ) → w.active e ≡ 1 → Joins w.version w.hop (w.applied e) (w.index e)
  pub begun : (e : ℕ) → w.active e ≡ 1 → e ≤ w.epoch

-- Cleaning loses nothing: the join of all that is filed never names a row of the block that was dropped.
abbrev pub CleaningLosesNothing : IndexState → Type 0
CleaningLosesNothing w = (l q : ℕ) → w.dropped l q ≡ 1 → 0 < w.version l q → w.joined.log ≡ l → w.joined.seq ≡ q → ⊥

-- Dead stays dead for whom it was counted: a row of which a Dead was counted is named by no manager that is active at that epoch or a later one,
-- unless a newer version is filed. Only such rows are dropped.
pub record DeadStays (w : IndexState) : Type 0 where
  pub counted : (l q : ℕ) → w.dropped l q ≡ 1 → 0 < w.dead_at l q
  pub reigned : (l q : ℕ) → 0 < w.dead_at l q → w.dead_at l q ≤ w.reigning
  pub stays : (l q e : ℕ) → 0 < w.dead_at l q → w.dead_at l q ≤ e → w.active e ≡ 1 → (w.index e).log ≡ l → (w.index e).seq ≡ q
      → w.version l q < w.joined.version

-- Horizons stand still: since the reigning epoch none was kept, so the epochs after it have the same.
abbrev pub HorizonStays : IndexState → Type 0
HorizonStays w = (d e l : ℕ) → w.reigning < d → d ≤ e → e ≤ w.epoch → w.floor d l ≡ w.floor e l

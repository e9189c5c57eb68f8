-- The history of each block: the versions that were written, and which of them may never fall again.
use Rattle.std.specs.Prelude.{ℕ, zero, suc, ◌+◌, max, Bool, true, false, ◌==◌, List, [], ◌∷◌, slice_get, Option, Some, None, if◌then◌else◌}
use Rattle.xfs_base.specs.declared.block.BlockId.{BlockId}
pub use Rattle.version_model.specs.declared.history.Version.{Version}
pub use Rattle.version_model.specs.declared.history.BlockHistory.{BlockHistory}
pub use Rattle.version_model.specs.declared.history.FallTold.{FallTold}

-- Absent, or its bytes
abbrev pub Content : Type 0
Content = Option (List ℕ)

-- the history of each block, and of each client the falls that wait for it to come back
pub record History : Type 0 where
  pub of_block : BlockId → BlockHistory
  pub told : ℕ → List FallTold

-- the history of a block that was never written
abbrev pub unwritten : BlockHistory
unwritten = record { versions = []; pinned = 0 }

-- no block was written and no client fell
abbrev pub nothing_yet : History
nothing_yet = record { of_block = λ b. unwritten; told = λ c. [] }

-- what version n holds: Absent for 0, nothing past the newest
abbrev pub content_at : ℕ → List Version → Option Content
content_at zero versions = Some None
content_at (suc n) versions = elim (slice_get versions n) [ None ↦ None | Some v ↦ Some v.content ]

-- whether another client wrote version n
abbrev pub is_by_other : ℕ → ℕ → List Version → Bool
is_by_other client zero versions = false
is_by_other client (suc n) versions = elim (slice_get versions n) [ None ↦ false | Some v ↦ (if v.writer == client then false else true) ]

-- the greatest version by a client, where the first of these has number n; 0 where there is none
abbrev pub greatest_by : ℕ → ℕ → List Version → ℕ
greatest_by client n [] = 0
greatest_by client n (v ∷ vs) = max (if v.writer == client then n else 0) (greatest_by client (n + 1) vs)

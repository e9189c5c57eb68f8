-- The newest checkpoints of the slots.
use Rattle.std.specs.Prelude.{ℕ, Bool, false, List, [], ◌∷◌, Option, Some, None, ◌==◌, ◌&&◌, nat_le, length, replicate, slice_get, slice_index}
use Rattle.std.specs.List.{list_all}
use Rattle.xfs_base.specs.declared.segment.SegRef.{SegRef}
use Rattle.xfs_base.specs.Limits.{block_logs}
use Rattle.registry.specs.declared.checkpoint.Checkpoint.{Checkpoint}

-- of a slot without a checkpoint: no segments, and each of the nine logs is uncovered from its first
abbrev pub first_checkpoint : Checkpoint
first_checkpoint = record { parts = []; horizon = replicate block_logs 1 }

-- the places of the nine logs in a horizon
abbrev pub places : List ℕ
places = 0 ∷ 1 ∷ 2 ∷ 3 ∷ 4 ∷ 5 ∷ 6 ∷ 7 ∷ 8 ∷ []

-- no number of a horizon is below the one that is kept
abbrev pub none_lower : List ℕ → List ℕ → Bool
none_lower kept horizon = list_all (λ place. nat_le (slice_index kept place) (slice_index horizon place)) places

-- a horizon has its nine numbers, none below the one that is kept
abbrev pub no_lower : List ℕ → List ℕ → Bool
no_lower kept horizon = (length horizon == block_logs) && none_lower kept horizon

abbrev pub covers : Option Checkpoint → List ℕ → Bool
covers None horizon = false
covers (Some kept) horizon = no_lower kept.horizon horizon

-- whether a horizon may take the place of the one that is kept for a slot
abbrev pub covers_kept : List Checkpoint → ℕ → List ℕ → Bool
covers_kept checkpoints slot horizon = covers (slice_get checkpoints slot) horizon

abbrev pub parts_in : Option Checkpoint → List SegRef
parts_in None = []
parts_in (Some kept) = kept.parts

-- the segments of a slot's checkpoint
abbrev pub parts_at : List Checkpoint → ℕ → List SegRef
parts_at checkpoints slot = parts_in (slice_get checkpoints slot)

abbrev pub horizon_in : Option Checkpoint → List ℕ
horizon_in None = []
horizon_in (Some kept) = kept.horizon

-- the horizon of a slot's checkpoint
abbrev pub horizon_at : List Checkpoint → ℕ → List ℕ
horizon_at checkpoints slot = horizon_in (slice_get checkpoints slot)

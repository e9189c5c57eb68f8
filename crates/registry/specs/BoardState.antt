-- The state of the registry.
use Rattle.std.specs.Prelude.{ℕ, List}
use Rattle.group_map.specs.GroupMapState.{GroupMapState}
use Rattle.manager_map.specs.declared.entry.SlotEntry.{SlotEntry}
use Rattle.registry.specs.declared.checkpoint.Checkpoint.{Checkpoint}

pub record BoardState : Type 0 where
  -- the version of the maps
  pub version : ℕ
  -- the epoch and the manager of each slot, from slot 0
  pub entries : List SlotEntry
  -- the newest checkpoint of each slot, from slot 0
  pub checkpoints : List Checkpoint
  -- the incarnation that is kept of each manager that told of one, by number
  pub incs : List (ℕ × ℕ)
  -- the stripe groups, and the generation that is kept of each server
  pub groups : GroupMapState

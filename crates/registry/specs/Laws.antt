-- What any inputs leave of the registry's state.
use Rattle.std.specs.Prelude.{◌≡◌, ℕ, ◌+◌, ◌<◌, ◌≤◌, ◌==◌, ◌⊎◌, List, slice_index, if◌then◌else◌}
use Rattle.xfs_base.specs.Steps.{steps}
use Rattle.xfs_base.specs.Limits.{block_logs}
use Rattle.group_map.specs.Groups.{generation_at}
use Rattle.manager_map.specs.declared.entry.SlotEntry.{SlotEntry}
use Rattle.manager_map.specs.Slots.{entry_at}
use Rattle.registry.specs.BoardState.{BoardState}
use Rattle.registry.specs.Board.{transition, inc_of}
use Rattle.registry.specs.Checkpoints.{horizon_at}
use Rattle.registry.specs.declared.input.In.{In}
use Rattle.registry.specs.declared.input.In.TheVariants.{Hello, Reassign, Done}

-- the state after any inputs, in order
abbrev pub after_all : BoardState → List In → BoardState
after_all s inputs = (steps transition s inputs).state

-- the second entries may follow the first: no epoch is lower, and under one epoch a slot has one manager
pub record AreLater (old new : List SlotEntry) : Type 0 where
  pub epochs : (slot : ℕ) → (entry_at old slot).epoch ≤ (entry_at new slot).epoch
  pub one_manager : (slot : ℕ) → (entry_at new slot).epoch ≡ (entry_at old slot).epoch → entry_at new slot ≡ entry_at old slot

-- the second state may follow the first: it is the first or has a greater version, and nothing that is kept falls
pub record IsLater (old new : BoardState) : Type 0 where
  pub version : old.version ≤ new.version
  pub one_state : new.version ≡ old.version → new ≡ old
  pub slots : AreLater old.entries new.entries
  pub horizons : (slot log : ℕ) → log < block_logs → slice_index (horizon_at old.checkpoints slot) log ≤ slice_index (horizon_at new.checkpoints slot) log
  pub incarnations : (manager : ℕ) → inc_of old.incs manager ≤ inc_of new.incs manager
  pub generations : (server : ℕ) → generation_at old.groups.generations server ≤ generation_at new.groups.generations server

-- one input leaves the state as it is, or the version after it
abbrev pub StaysOrRises : BoardState → BoardState → Type 0
StaysOrRises old new = (new ≡ old) ⊎ (new.version ≡ old.version + 1)

-- an input other than a checkpoint, of which the nodes hear later
abbrev pub IsNotCheckpoint : In → Type 0
IsNotCheckpoint (Hello node inc) = Unit {0}
IsNotCheckpoint (Reassign slot manager) = Unit {0}
IsNotCheckpoint (Done slot epoch parts horizon) = ⊥

-- what a slot has once this manager has restarted: under the next epoch, where the slot is its own
abbrev pub restarted_entry : ℕ → SlotEntry → SlotEntry
restarted_entry manager entry = if entry.manager == manager then record { epoch = entry.epoch + 1; manager = manager } else entry

-- What a manager has of a slot.
use Rattle.std.specs.Prelude.{ℕ, Bool, true, false, ◌&&◌, [], Option, None, replicate}
use Rattle.xfs_base.specs.Limits.{block_logs}
use Rattle.node_base.specs.Asking.{own_of}
use Rattle.node_base.specs.Room.{has_room, has_long_room}
use Rattle.token_manager.specs.SlotState.{SlotState}
use Rattle.token_manager.specs.Transition.{slot_start}
use Rattle.manager_slots.specs.declared.slot_phase.Active.{Active}
use Rattle.manager_slots.specs.declared.slot_phase.SlotPhase.{SlotPhase}
use Rattle.manager_slots.specs.declared.slot_phase.SlotPhase.TheVariants as phase

-- the newest epoch of the slot that the manager knows of
abbrev pub epoch_of : SlotPhase → ℕ
epoch_of (phase.Away epoch) = epoch
epoch_of (phase.Taking taking) = taking.epoch
epoch_of (phase.Active active) = active.slot.epoch
epoch_of (phase.Broken epoch seg) = epoch

-- whether the manager manages the slot
abbrev pub is_active : SlotPhase → Bool
is_active (phase.Active active) = true
is_active (phase.Away epoch) = false
is_active (phase.Taking taking) = false
is_active (phase.Broken epoch seg) = false

-- whether it takes the slot over
abbrev pub is_taking : SlotPhase → Bool
is_taking (phase.Taking taking) = true
is_taking (phase.Away epoch) = false
is_taking (phase.Active active) = false
is_taking (phase.Broken epoch seg) = false

abbrev pub has_turns : SlotPhase → Bool
has_turns (phase.Active active) = has_long_room active.slot.turn
has_turns (phase.Away epoch) = true
has_turns (phase.Taking taking) = true
has_turns (phase.Broken epoch seg) = true

-- each counter is at least 65,536 below its end
abbrev pub slot_phase_has_room : SlotPhase → Bool
slot_phase_has_room p = has_room (epoch_of p) && has_turns p

-- the number that the takeover gave the question that is answered
abbrev pub fetch_of : SlotPhase → ℕ → Option ℕ
fetch_of (phase.Taking taking) ask = own_of taking.fetches ask
fetch_of (phase.Away epoch) ask = None
fetch_of (phase.Active active) ask = None
fetch_of (phase.Broken epoch seg) ask = None

-- the slot is managed from here on, and no checkpoint of it was sent
abbrev pub managed : SlotState → SlotPhase
managed s = phase.Active (record { slot = s; parts = [] })

-- a slot that is managed from the start of a run: nothing has happened in it
abbrev pub first_active : SlotPhase
first_active = managed (slot_start 1 [] [] (replicate block_logs 0))

-- a slot of which the tokens and the index have changed
abbrev pub with_slot : Active → SlotState → SlotPhase
with_slot active s = phase.Active (record active { slot = s })

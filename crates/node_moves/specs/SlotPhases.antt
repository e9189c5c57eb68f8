-- What is so of the slots of a manager, by their phases.
use Rattle.std.specs.Prelude.{ℕ, suc, List, [], ◌∷◌}
use Rattle.manager_slots.specs.declared.slot_phase.Active.{Active}
use Rattle.manager_slots.specs.declared.slot_phase.SlotPhase.{SlotPhase}
use Rattle.manager_slots.specs.declared.slot_phase.SlotPhase.TheVariants as phase
use Rattle.manager_slots.specs.declared.slot_phase.Taking.{Taking}

-- of one that it manages, and of one that it takes over; of others there is nothing to say
abbrev pub SlotIs : (Active → Type 0) → (Taking → Type 0) → SlotPhase → Type 0
SlotIs managed taken (phase.Active a) = managed a
SlotIs managed taken (phase.Taking t) = taken t
SlotIs managed taken _ = Unit {0}

-- of each of the slots from this number on
abbrev pub EachSlot : (ℕ → SlotPhase → Type 0) → ℕ → List SlotPhase → Type 0
EachSlot is k [] = Unit {0}
EachSlot is k (p ∷ phases) = is k p × EachSlot is (suc k) phases

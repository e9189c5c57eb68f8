use Rattle.std.proofs.Common.{◌≡◌, drop}
use Rattle.std.specs.List.{fold}
use Rattle.registry.specs.Slots.{raise_one}
use Rattle.registry.proofs.slots.raise.Given as goal

-- the slots to come, on what is raised so far, give what all give
abbrev pub invariant-loop-slot : goal.invariant-loop-slot
invariant-loop-slot l = fold (raise_one l.manager) l.managers (drop l.slot-index l.slots) ≡ fold (raise_one l.manager) l.initial.managers l.slots

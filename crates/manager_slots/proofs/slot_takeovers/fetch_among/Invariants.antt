use Rattle.std.proofs.Common.{◌≡◌, drop}
use Rattle.manager_slots.specs.SlotTable.{fetch_among}
use Rattle.manager_slots.proofs.slot_takeovers.fetch_among.Given as goal

-- the slot that is looked for is among those to come
abbrev pub invariant-loop-slot : goal.invariant-loop-slot
invariant-loop-slot l = fetch_among l.phases l.ask (drop l.slot-index l.slots) ≡ fetch_among l.phases l.ask l.slots

use Rattle.std.proofs.Common.{◌≡◌, ◌+◌, ◌<◌, List, [], ◌∷◌, ◌++◌, length, map, drop, ap, sym, ◌∙◌, append_assoc, arith}
use Rattle.std.proofs.lemmas.List.{at_drop_more}
use Rattle.manager_slots.specs.SlotTable.{unknown_phase}
use Rattle.manager_slots.specs.declared.slot_phase.SlotPhase.{SlotPhase}
use Rattle.manager_slots.proofs.slot_table.unknown_phases.Goals as goal

-- the slots so far and those to come, once one more is made
one_more : (done now rest all : List SlotPhase) (x : SlotPhase) → now ≡ done ++ x ∷ [] → done ++ (x ∷ rest) ≡ all → now ++ rest ≡ all
one_more done now rest all x fact before = ap (λ n. n ++ rest) fact ∙ append_assoc done (x ∷ []) rest ∙ before

pub loop-slot-preserved : goal.loop-slot-preserved
loop-slot-preserved c =
    let here : c.loop-slot._slot-index < length c.args.slots.now = omega arith in
    let more : map unknown_phase (drop c.loop-slot._slot-index c.args.slots.now) ≡ unknown_phase 0 ∷ map unknown_phase
    (drop (c.loop-slot._slot-index + 1) c.args.slots.now) =
    at_drop_more (map unknown_phase) c.args.slots.now c.loop-slot._slot-index 0 here
    in
    one_more c.loop-slot.phases c.push.new.self (map unknown_phase (drop (c.loop-slot._slot-index + 1) c.args.slots.now)) (map unknown_phase c.args.slots.now)
    (unknown_phase 0)
    c.in_ok-push.ensures.ok (ap (λ r. c.loop-slot.phases ++ r) (sym more) ∙ c.loop-slot.invariant)

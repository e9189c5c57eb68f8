use Rattle.std.proofs.Common.{◌≡◌, ℕ, ◌+◌, ◌<◌, List, [], ◌∷◌, ◌++◌, length, get_or, map, drop, ap, sym, ◌∙◌, append_assoc, arith}
use Rattle.std.proofs.lemmas.List.{at_drop_more}
use Rattle.manager_slots.specs.SlotTable.{first_phase}
use Rattle.manager_slots.specs.declared.slot_phase.SlotPhase.{SlotPhase}
use Rattle.manager_slots.proofs.slot_table.first_phases.Goals as goal

-- the slots so far and those to come, once one more is made
one_more : (done now rest all : List SlotPhase) (x y : SlotPhase) → now ≡ done ++ x ∷ [] → x ≡ y → done ++ (y ∷ rest) ≡ all → now ++ rest ≡ all
one_more done now rest all x y fact same before =
    ap (λ n. n ++ rest) fact ∙ append_assoc done (x ∷ []) rest ∙ ap (λ z. done ++ (z ∷ rest)) same ∙ before

pub loop-slot-preserved : goal.loop-slot-preserved
loop-slot-preserved c =
    let i = c.loop-slot.slot-index in
    let xs = c.args.slots.now in
    let f : ℕ → SlotPhase = first_phase c.args.number c.args.entries.now in
    let here : c.loop-slot.slot-index < length c.args.slots.now = omega arith in
    let more : map f (drop i xs) ≡ f (get_or xs i 0) ∷ map f (drop (i + 1) xs) = at_drop_more (map f) xs i 0 here in
    one_more c.loop-slot.phases c.push.new.self (map f (drop (i + 1) xs)) (map f xs) c.in_ok-first_phase.field-0 (f (get_or xs i 0)) c.in_ok-push.ensures.ok
    c.in_ok-first_phase.ensures (ap (λ r. c.loop-slot.phases ++ r) (sym more) ∙ c.loop-slot.invariant)

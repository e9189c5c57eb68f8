use Rattle.std.proofs.Common.{arith, ◌≡◌, ◌++◌, ◌∙◌, None, slice_get, sym, ap}
use Rattle.std.proofs.lemmas.List.{append-nil}
use Rattle.std.proofs.lemmas.Option.{slice_get_past}
use Rattle.manager_slots.specs.SlotTable.{usage_in}
use Rattle.manager_slots.proofs.slot_table.say_usage.Goals as goal

pub returns-in-None : goal.returns-in-None
returns-in-None c =
    let gone : slice_get c.args.phases.now c.args.asked.slot ≡ None =
    slice_get_past c.args.phases.now c.args.asked.slot (omega (arith, c.in-None.ensures.lookup, c.from.ensures)) in
    sym (append-nil c.args.effects.now) ∙ sym (ap (λ o. c.args.effects.now ++ usage_in c.args.asked o) gone)

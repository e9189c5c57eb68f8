use Rattle.std.proofs.Common.{List, Option, ◌++◌, sym}
use Rattle.std.proofs.lemmas.List.{append-nil}
use Rattle.manager_slots.specs.SlotTable.{slot_table_recall, in_slot}
use Rattle.manager_slots.specs.Tokens as tokens
use Rattle.node_base.specs.declared.effects.Effect.{Effect}
use Rattle.manager_slots.specs.declared.slot_phase.SlotPhase.{SlotPhase}
use Rattle.manager_slots.proofs.Lent.{as_found, as_missing}
use Rattle.manager_slots.proofs.slot_table.SlotTable.recall.Goals as goal
use Rattle.manager_slots.proofs.slot_table.SlotTable.recall.Goals.{in-Some, in-None}

pub returns-clause-effects : goal.returns-clause-effects
unfolding slot_table_recall
returns-clause-effects c =
    let made = c.args.effects.now in
    let f : Option SlotPhase → List Effect = λ o. made ++ (in_slot c.args.self.now (c.args.slot) (λ p. tokens.on_tick p c.args.slot) o).outs in
    elim c.match-get_mut.branch [
      | in-Some w ↦ as_found f _ _ _ _ _ c.get_mut.ensures.item c.self.view_is c.from.ensures _ _ _ w.in-Some.is _ _ w.effects-is w.result-is
          w.on_tick.ensures.effects
      | in-None w ↦ as_missing f _ _ _ _ _ c.get_mut.ensures.item c.self.view_is c.from.ensures _ w.in-None.is _ _ w.effects-is (sym (append-nil made))
    ]

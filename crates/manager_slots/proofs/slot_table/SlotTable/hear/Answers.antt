use Rattle.std.proofs.Common.{List, Option, ◌++◌, sym, refl}
use Rattle.std.proofs.lemmas.List.{append-nil}
use Rattle.manager_slots.specs.SlotTable.{slot_table_hear, in_taken, table_asker, hear_of, hearer}
use Rattle.node_base.specs.declared.effects.Effect.{Effect}
use Rattle.node_base.specs.declared.questions.Questions.{Questions}
use Rattle.manager_slots.specs.declared.slot_phase.SlotPhase.{SlotPhase}
use Rattle.manager_slots.proofs.Lent.{as_found, as_missing}
use Rattle.manager_slots.proofs.slot_table.SlotTable.hear.Goals as goal
use Rattle.manager_slots.proofs.slot_table.SlotTable.hear.Goals.{in-Some, in-None}

pub returns-clause-questions : goal.returns-clause-questions
unfolding slot_table_hear
returns-clause-questions c =
    let f : Option SlotPhase → Questions =
    λ o. (in_taken (table_asker c.args.self.now c.args.questions.now) (c.args.news.now.slot)
    (hear_of (hearer c.args.ears c.args.groups.now) c.args.news.now) o).state.questions in
    elim c.match-get_mut.branch [
      | in-Some w ↦ as_found f _ _ _ _ _ c.get_mut.ensures.item c.self.view_is c.from.ensures _ _ _ w.in-Some.is _ _ w.questions-is w.result-is
          w.hear_of.ensures.questions
      | in-None w ↦ as_missing f _ _ _ _ _ c.get_mut.ensures.item c.self.view_is c.from.ensures _ w.in-None.is _ _ w.questions-is refl
    ]

pub returns-clause-effects : goal.returns-clause-effects
unfolding slot_table_hear
returns-clause-effects c =
    let made = c.args.effects.now in
    let f : Option SlotPhase → List Effect =
    λ o. made ++ (in_taken (table_asker c.args.self.now c.args.questions.now) (c.args.news.now.slot)
    (hear_of (hearer c.args.ears c.args.groups.now) c.args.news.now) o).outs in
    elim c.match-get_mut.branch [
      | in-Some w ↦ as_found f _ _ _ _ _ c.get_mut.ensures.item c.self.view_is c.from.ensures _ _ _ w.in-Some.is _ _ w.effects-is w.result-is
          w.hear_of.ensures.effects
      | in-None w ↦ as_missing f _ _ _ _ _ c.get_mut.ensures.item c.self.view_is c.from.ensures _ w.in-None.is _ _ w.effects-is (sym (append-nil made))
    ]

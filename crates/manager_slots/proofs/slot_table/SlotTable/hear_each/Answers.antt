use Rattle.std.proofs.Common.{◌+◌, ◌<◌, ◌++◌, length, ap, ◌∙◌, arith}
use Rattle.manager_slots.specs.SlotTable.{TableAsker, table_asker, hearer, slot_table_hear}
use Rattle.manager_slots.proofs.Turns.{table_asker_is, table_on, effects_on}
use Rattle.manager_slots.proofs.slot_table.SlotTable.hear_each.Goals as goal

pub loop-news-preserved : goal.loop-news-preserved
loop-news-preserved c =
    let i = c.loop-news.news-index in
    let xs = c.args.slots.now in
    let here : c.loop-news.news-index < length c.args.slots.now = omega arith in
    let step = slot_table_hear (hearer c.args.ears c.args.groups.now) in
    let a : TableAsker = table_asker c.loop-news.self c.loop-news.questions in
    let b : TableAsker = table_asker c.hear.new.self c.hear.new.questions in
    let x = c.news-item.result in
    let e = c.in_ok-hear.ensures in
    let now = table_asker_is (step a x).state c.hear.new.self c.hear.new.questions e.state e.questions ∙ ap (λ y. (step a y).state) c.news-item.is in
    record {
      state = table_on step a b xs i x here now _ c.loop-news.invariant.state;
      outs = effects_on step a b xs i x here now _ _ _ (e.effects ∙ ap (λ y. c.loop-news.effects ++ (step a y).outs) c.news-item.is) c.loop-news.invariant.outs;
    }

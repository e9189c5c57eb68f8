use Rattle.std.proofs.Common.{◌≡◌, subst, arith}
use Rattle.std.proofs.lemmas.Grind.{common_steps}
use Rattle.log_flight.specs.Items.{items_of}
use Rattle.log_flight.proofs.ItemTexts.{BuildsItems, builds_more, written_have_text}
use Rattle.log_flight.proofs.items.items_of.Goals as goal

pub loop-block-preserved : goal.loop-block-preserved
loop-block-preserved c =
    let all = c.into_iter-block-iterator.result in
    builds_more c.loop-block.items (c.in-Some.block, c.in-Some.change) c.next.new.self all c.add_items.new.items
    (subst (λ r. BuildsItems c.loop-block.items r all) c.in-Some.ensures.steps c.loop-block.invariant)
    c.in_ok-add_items.ensures.added c.in_ok-add_items.ensures.each

pub returns-clause-text : goal.returns-clause-text
returns-clause-text c =
    let e : c.loop-block.items ≡ items_of 0 c.args.changes.entries = grind (arith, common_steps) in
    written_have_text c.loop-block.items c.args.changes.entries c.requires e c.loop-block.invariant.each

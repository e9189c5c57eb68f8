use Rattle.checkpoint.proofs.Queue.{items_next, left_next, same_next}
use Rattle.checkpoint.proofs.work.Work.next_items.Goals as goal

pub loop-preserved : goal.loop-preserved
loop-preserved c =
    let e = c.in_ok-add_item.ensures in
    record {
      items = items_next c.loop.counter c.loop-test.true c.loop.self c.add_item.new.self e.left c.loop.items c.add_item.new.items _ e.items
          c.loop.invariant.items;
      left = left_next c.loop.counter c.loop-test.true c.loop.self c.add_item.new.self e.left _ c.loop.invariant.left;
      same = same_next c.loop.counter c.loop-test.true c.loop.self c.add_item.new.self e.left c.args.self.now c.loop.invariant.same;
    }

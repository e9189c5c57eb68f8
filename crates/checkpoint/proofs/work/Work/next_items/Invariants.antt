use Rattle.std.proofs.Common.{◌≡◌, ◌-◌, ◌++◌, take, drop}
use Rattle.checkpoint.specs.WriterState.{items_of}
use Rattle.checkpoint.proofs.work.Work.next_items.Given as goal

-- the items so far and those to come are all, and the rest is left
abbrev pub invariant-loop : goal.invariant-loop
invariant-loop l = record {
  items : l.items ++ items_of l.self.slot (take (24 - l.counter) l.self.left) ≡ items_of l.fn.self.slot (take 24 l.fn.self.left);
  left : drop (24 - l.counter) l.self.left ≡ drop 24 l.fn.self.left;
  same : l.self ≡ record l.fn.self { left = l.self.left };
}

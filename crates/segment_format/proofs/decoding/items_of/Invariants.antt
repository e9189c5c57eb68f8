use Rattle.std.proofs.Common.{◌≡◌, ◌-◌, ◌+◌}
use Rattle.segment_format.specs.ReadingItems.{items_at}
use Rattle.segment_format.specs.Rule.{nothing_seen}
use Rattle.segment_format.proofs.Loops.{with_front}
use Rattle.segment_format.proofs.decoding.items_of.Given as goal

-- the items so far, and those still to read, are all
abbrev pub invariant-loop : goal.invariant-loop
invariant-loop l = record {
  whole : with_front l.items (items_at l.version l.seen (l.count - l.counter) l.reader) ≡ items_at l.version nothing_seen l.count l.fn.reader;
  counted : l.seen.others + l.seen.deltas ≡ l.counter;
}

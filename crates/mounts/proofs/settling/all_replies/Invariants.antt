use Rattle.std.proofs.Common.{◌≡◌, ◌+◌, ◌++◌, length}
use Rattle.rtrb.specs.Ring.{known_items, received, sent}
use Rattle.mounts.proofs.settling.all_replies.Given as goal

-- those that were taken so far and those that are known to be on the ring are all
abbrev pub invariant-loop : goal.invariant-loop
invariant-loop l = record {
  taken : l.all ≡ received l.end;
  whole : received l.end ++ known_items l.end ≡ sent l.fn.ring;
  left : length (known_items l.end) + l.counter ≡ l.count;
}

use Rattle.std.proofs.Common.{◌≡◌, ◌+◌, ◌≤◌, ◌++◌, length}
use Rattle.std.specs.Vec.Iter.{into_iter_items}
use Rattle.log_flight.specs.Fragments.{pieces_from}
use Rattle.log_flight.proofs.fragments.add_fragments.Given as goal

-- the fragments so far and those to come are all, and they are few
abbrev pub invariant-loop-bytes : goal.invariant-loop-bytes
invariant-loop-bytes l =
    (l.fragments ++ pieces_from l.segment (length l.fragments) (into_iter_items l.bytes-iterator) ≡ l.initial.fragments
    ++ pieces_from l.segment (length l.initial.fragments) (into_iter_items l.initial.bytes-iterator))
    × (length l.fragments + length (into_iter_items l.bytes-iterator) ≤ 8)

use Rattle.std.proofs.Common.{◌≡◌, ◌++◌, List}
use Rattle.std.specs.Vec.Iter.{into_iter_items}
use Rattle.live_links.specs.declared.letter.Letter.{Letter}
use Rattle.live_links.specs.Ends.{Sends}
use Rattle.live_links.proofs.ends.push_each.Given as goal

-- those that were taken were pushed, and the rest are to come
abbrev pub invariant-loop-letter : goal.invariant-loop-letter
invariant-loop-letter l =
    (taken : List Letter) × (taken ++ into_iter_items l.letter-iterator ≡ l.fn.letters) × Sends l.cluster l.fn.ends.items taken l.ends.items

use Rattle.std.proofs.Common.{◌∙◌, ◌++◌, sym, ap}
use Rattle.rtrb.specs.Ring.{known_items}
use Rattle.mounts.proofs.settling.compare_calls.Goals as goal

pub returns : goal.returns
returns c =
    let s = c.slots_beside.ensures in
    let known = known_items c.slots_beside.new.self in
    (known, ap (λ xs. xs ++ known) (sym s.looked.1) ∙ s.fifo ∙ s.producer.1)

use Rattle.std.proofs.Common.{◌≡◌, ◌++◌}
use Rattle.slot_beliefs.specs.Beliefs.{others}
use Rattle.slot_beliefs.proofs.Together.{listed}
use Rattle.slot_beliefs.proofs.beliefs.add_others.Given as goal

-- the clients so far, and those to come, are all
abbrev pub invariant-loop-holder : goal.invariant-loop-holder
invariant-loop-holder l =
    l.clients ++ listed l.holder-iterator l.block l.client l.owners ≡ l.initial.clients ++ others l.beliefs.entries l.block l.client l.owners

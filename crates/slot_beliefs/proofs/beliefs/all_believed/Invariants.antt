use Rattle.std.proofs.Common.{◌≡◌, [], drop}
use Rattle.slot_beliefs.specs.Beliefs.{all_believed}
use Rattle.slot_beliefs.proofs.beliefs.all_believed.Given as goal

-- the beliefs so far, and those to come, are all
abbrev pub invariant-loop-belief : goal.invariant-loop-belief
invariant-loop-belief l = all_believed l.beliefs.entries (drop l.belief-index l.list) ≡ all_believed [] l.list

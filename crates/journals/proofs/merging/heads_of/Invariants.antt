use Rattle.std.proofs.Common.{◌≡◌, ◌++◌, drop}
use Rattle.journals.specs.Merging.{heads_of}
use Rattle.journals.proofs.merging.heads_of.Given as goal

-- the clocks so far and those of what is to come are all
abbrev pub invariant-loop-rest : goal.invariant-loop-rest
invariant-loop-rest l = l.heads.items ++ heads_of (drop l.rest-index l.rests) ≡ heads_of l.rests

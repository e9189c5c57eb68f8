use Rattle.std.proofs.Common.{drop}
use Rattle.version_model.specs.Legal.{NamesNoBlockTwice}
use Rattle.version_model.proofs.judge.names_no_block_twice.Given as goal
use Rattle.version_model.proofs.Each.{Agree}

-- it is left to show of the falls to come
abbrev pub invariant-loop-place : goal.invariant-loop-place
invariant-loop-place l = Agree (NamesNoBlockTwice (drop l.place l.falls)) (NamesNoBlockTwice l.falls)

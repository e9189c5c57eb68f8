use Rattle.mounts.specs.Ports.{ArePairs}
use Rattle.mounts.proofs.starting.pairs_of.Given as goal

abbrev pub invariant-loop-place : goal.invariant-loop-place
invariant-loop-place l = ArePairs l.script l.place l.mounts.items l.ports.items

use Rattle.std.proofs.Common.{◌≡◌, ◌++◌, drop}
use Rattle.fragment_sums.specs.Recovered.{missing_from}
use Rattle.fragment_sums.proofs.recovery.missing.Given as goal

abbrev pub invariant-loop-place : goal.invariant-loop-place
invariant-loop-place l = l.places ++ missing_from l.place (drop l.place l.parts) ≡ missing_from 0 l.parts

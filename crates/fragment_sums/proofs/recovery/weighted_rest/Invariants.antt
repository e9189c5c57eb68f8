use Rattle.std.proofs.Common.{◌≡◌, length, drop}
use Rattle.fragment_sums.specs.Sums.{weighted}
use Rattle.fragment_sums.specs.Recovered.{rest_onto}
use Rattle.fragment_sums.proofs.recovery.weighted_rest.Given as goal

abbrev pub invariant-loop-place : goal.invariant-loop-place
invariant-loop-place l = record {
  rest : rest_onto weighted l.place l.sum (drop l.place l.known) ≡ rest_onto weighted 0 l.initial.sum l.known;
  long : length l.sum ≡ l.part;
}

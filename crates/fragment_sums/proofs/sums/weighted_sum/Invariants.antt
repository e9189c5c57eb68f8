use Rattle.std.proofs.Common.{◌≡◌, length, drop}
use Rattle.fragment_sums.specs.Sums.{weighted, sum_onto}
use Rattle.fragment_sums.proofs.sums.weighted_sum.Given as goal

abbrev pub invariant-loop-place : goal.invariant-loop-place
invariant-loop-place l = record {
  sum : sum_onto weighted l.place l.sum (drop l.place l.fragments) ≡ sum_onto weighted 0 l.initial.sum l.fragments;
  long : length l.sum ≡ l.part;
}

use Rattle.std.proofs.Common.{◌≡◌, length, drop}
use Rattle.fragment_sums.specs.Sums.{plain, sum_onto}
use Rattle.fragment_sums.proofs.sums.plain_sum.Given as goal

abbrev pub invariant-loop-fragment : goal.invariant-loop-fragment
invariant-loop-fragment l = record {
  sum : sum_onto plain l.fragment-index l.sum (drop l.fragment-index l.fragments) ≡ sum_onto plain 0 l.initial.sum l.fragments;
  long : length l.sum ≡ l.part;
}

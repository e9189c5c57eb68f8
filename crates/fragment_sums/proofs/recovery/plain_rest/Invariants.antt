use Rattle.std.proofs.Common.{◌≡◌, length, drop}
use Rattle.fragment_sums.specs.Sums.{plain}
use Rattle.fragment_sums.specs.Recovered.{rest_onto}
use Rattle.fragment_sums.proofs.recovery.plain_rest.Given as goal

abbrev pub invariant-loop-fragment : goal.invariant-loop-fragment
invariant-loop-fragment l = record {
  rest : rest_onto plain l.fragment-index l.sum (drop l.fragment-index l.known) ≡ rest_onto plain 0 l.initial.sum l.known;
  long : length l.sum ≡ l.part;
}

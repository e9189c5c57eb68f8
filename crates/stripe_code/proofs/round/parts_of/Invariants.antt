use Rattle.std.proofs.Common.{◌≡◌}
use Rattle.stripe_code.specs.Round.{parts_in}
use Rattle.stripe_code.proofs.round.parts_of.Given as goal

abbrev pub invariant-loop-index : goal.invariant-loop-index
invariant-loop-index l = l.parts ≡ parts_in l.index l.answers

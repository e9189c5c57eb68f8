use Rattle.std.proofs.Common.{◌≡◌, ◌++◌, drop}
use Rattle.stripe_code.specs.Round.{missing_in}
use Rattle.stripe_code.proofs.round.missing_of.Given as goal

abbrev pub invariant-loop-answer : goal.invariant-loop-answer
invariant-loop-answer l = l.pairs ++ missing_in (drop l.answer-index l.answers) ≡ missing_in l.answers

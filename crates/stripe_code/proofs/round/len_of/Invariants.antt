use Rattle.std.proofs.Common.{◌≡◌, drop}
use Rattle.stripe_code.specs.Round.{len_in}
use Rattle.stripe_code.proofs.round.len_of.Given as goal

abbrev pub invariant-loop-answer : goal.invariant-loop-answer
invariant-loop-answer l = len_in (drop l.answer-index l.answers) ≡ len_in l.answers

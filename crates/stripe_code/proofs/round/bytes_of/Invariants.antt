use Rattle.std.proofs.Common.{◌≡◌, drop}
use Rattle.stripe_code.specs.Round.{bytes_in}
use Rattle.stripe_code.proofs.round.bytes_of.Given as goal

abbrev pub invariant-loop-answer : goal.invariant-loop-answer
invariant-loop-answer l = bytes_in l.index (drop l.answer-index l.answers) ≡ bytes_in l.index l.answers

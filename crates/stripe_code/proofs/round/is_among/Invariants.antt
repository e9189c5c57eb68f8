use Rattle.std.proofs.Common.{◌≡◌, drop}
use Rattle.stripe_code.specs.Round.{has_answered}
use Rattle.stripe_code.proofs.round.is_among.Given as goal

-- the server is among the rest exactly where it is among all
abbrev pub invariant-loop-answer : goal.invariant-loop-answer
invariant-loop-answer l = has_answered (drop l.answer-index l.answers) l.server ≡ has_answered l.answers l.server

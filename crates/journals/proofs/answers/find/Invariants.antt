use Rattle.std.proofs.Common.{◌≡◌, false, take}
use Rattle.journals.specs.Answers.{is_among}
use Rattle.journals.proofs.answers.find.Given as goal

-- the number is none of those so far
abbrev pub invariant-loop-number : goal.invariant-loop-number
invariant-loop-number l = is_among l.wanted (take l.number-index l.numbers) ≡ false

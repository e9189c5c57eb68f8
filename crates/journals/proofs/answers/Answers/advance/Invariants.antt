use Rattle.std.proofs.Common.{◌≡◌, ℕ, ◌-◌, ◌^◌}
use Rattle.journals.specs.Answers.{answers_advance}
use Rattle.journals.proofs.answers.Answers.advance.Given as goal

-- the same are known as before
abbrev pub invariant-loop-next : goal.invariant-loop-next
invariant-loop-next l = (k : ℕ) → answers_advance l.self k ≡ answers_advance l.fn.self k

-- the number rises
abbrev pub decreases-loop-next : goal.decreases-loop-next
decreases-loop-next l = 2 ^ 32 - l.self.all

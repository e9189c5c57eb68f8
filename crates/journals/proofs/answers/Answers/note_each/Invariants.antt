use Rattle.std.proofs.Common.{◌≡◌, ℕ, ◌||◌, take}
use Rattle.journals.specs.Answers.{has_answer, answers_advance}
use Rattle.journals.proofs.answers.Answers.note_each.Given as goal

-- what is known was known before or is answered by one of the acts so far
abbrev pub invariant-loop-act : goal.invariant-loop-act
invariant-loop-act l = (k : ℕ) → answers_advance l.self k ≡ (answers_advance l.fn.self k || has_answer l.node k (take l.act-index l.acts))

use Rattle.std.proofs.Common.{◌≡◌, ◌≤◌, ◌+◌, drop}
use Rattle.std.specs.List.{count_by}
use Rattle.transcript.specs.Replies.{is_answer}
use Rattle.transcript.proofs.replies.count_answers.Given as goal

abbrev pub invariant-loop-act : goal.invariant-loop-act
invariant-loop-act l = (l.count + count_by is_answer (drop l.act-index l.acts) ≡ count_by is_answer l.acts) × (l.count ≤ l.act-index)

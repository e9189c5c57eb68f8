use Rattle.std.proofs.Common.{◌≡◌, ◌≤◌, take}
use Rattle.std.specs.List.{count_by}
use Rattle.disk_play.specs.Courses.{is_answer_of}
use Rattle.disk_play.proofs.counting.answers_of.Given as goal

-- the answers among the acts so far
abbrev pub invariant-loop-act : goal.invariant-loop-act
invariant-loop-act l = (l.count ≡ count_by (is_answer_of l.node) (take l.act-index l.acts)) × (l.count ≤ l.act-index)

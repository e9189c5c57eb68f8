use Rattle.std.proofs.Common.{◌≡◌, ◌++◌, drop}
use Rattle.live_links.specs.Answered.{answers_by}
use Rattle.live_links.proofs.answered.keep_answers.Given as goal

-- the answers that are kept and those of the acts to come are all
abbrev pub invariant-loop-act : goal.invariant-loop-act
invariant-loop-act l = l.kept ++ answers_by l.node (drop l.act-index l.acts) ≡ l.fn.kept ++ answers_by l.node l.acts

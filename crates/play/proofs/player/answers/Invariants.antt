use Rattle.std.proofs.Common.{◌≡◌, ◌≤◌, take}
use Rattle.play.specs.Plays.{answers}
use Rattle.play.proofs.player.answers.Given as goal

-- the answers among the acts so far
abbrev pub invariant-loop-act : goal.invariant-loop-act
invariant-loop-act l = (l.count ≡ answers (take l.act-index l.acts)) × (l.count ≤ l.act-index)

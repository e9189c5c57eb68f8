use Rattle.std.proofs.Common.{◌≡◌, ◌≤◌, fold, drop}
use Rattle.play.specs.Manner.{play_line}
use Rattle.play.proofs.playing.play_lines.Given as goal

-- the lines so far and those to come are all
abbrev pub invariant-loop-line : goal.invariant-loop-line
invariant-loop-line g l =
    let m = g.P.Playing.manner in
    (fold (play_line m) l.play (drop l.line-index l.script.lines) ≡ fold (play_line m) l.initial.play l.script.lines)
    × (m.unanswered l.play ≤ l.line-index)

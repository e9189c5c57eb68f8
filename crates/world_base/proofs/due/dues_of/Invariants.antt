use Rattle.std.proofs.Common.{◌≡◌, ◌++◌, drop}
use Rattle.world_base.specs.Dues.{dues_of}
use Rattle.world_base.proofs.due.dues_of.Given as goal

-- the dues so far and those of the lines to come are all
abbrev pub invariant-loop-line : goal.invariant-loop-line
invariant-loop-line l = l.dues ++ dues_of (drop l.line-index l.lines) l.node ≡ dues_of l.lines l.node

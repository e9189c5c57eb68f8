use Rattle.std.proofs.Common.{◌≡◌, ◌++◌, drop}
use Rattle.std.specs.List.{flat_map}
use Rattle.board.specs.Transition.{send_other}
use Rattle.board.proofs.board.Board.send_each.Given as goal

-- what is sent so far and what is to be sent is all
abbrev pub invariant-loop-to : goal.invariant-loop-to
invariant-loop-to l = l.outs ++ flat_map (send_other l.self l.body) (drop l.to-index l.boards) ≡ l.initial.outs ++ flat_map (send_other l.self l.body) l.boards

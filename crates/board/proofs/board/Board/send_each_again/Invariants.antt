use Rattle.std.proofs.Common.{◌≡◌, ◌++◌, drop}
use Rattle.std.specs.List.{flat_map}
use Rattle.board.specs.Transition.{send_again}
use Rattle.board.proofs.board.Board.send_each_again.Given as goal

-- what is sent so far and what is to be sent is all
abbrev pub invariant-loop-to : goal.invariant-loop-to
invariant-loop-to l = l.outs ++ flat_map (send_again l.self) (drop l.to-index l.boards) ≡ l.initial.outs ++ flat_map (send_again l.self) l.boards

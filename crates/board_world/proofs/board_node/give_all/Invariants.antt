use Rattle.std.proofs.Common.{◌≡◌, ◌++◌}
use Rattle.std.specs.Vec.Iter.{into_iter_items}
use Rattle.xfs_base.specs.Steps.{steps}
use Rattle.board_world.specs.BoardTurns.{board_node_give, mail_in}
use Rattle.board_world.proofs.board_node.give_all.Given as goal

-- what is given so far, and what is to come, is all
abbrev pub invariant-loop-out : goal.invariant-loop-out
invariant-loop-out l =
    let rest = steps (board_node_give l.items) l.registry (into_iter_items l.out-iterator) in
    let all = steps (board_node_give l.items) l.initial.registry (into_iter_items l.initial.out-iterator) in
    record {
      state : rest.state ≡ all.state;
      outs : l.handed ++ rest.outs ≡ l.initial.handed ++ all.outs;
      mail : l.mail ++ mail_in (into_iter_items l.out-iterator) ≡ l.initial.mail ++ mail_in (into_iter_items l.initial.out-iterator);
    }

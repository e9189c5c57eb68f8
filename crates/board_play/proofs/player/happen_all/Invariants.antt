use Rattle.std.proofs.Common.{◌≡◌, ◌++◌, fold}
use Rattle.std.specs.Vec.Iter.{into_iter_items}
use Rattle.world_base.specs.NextWorld.{next_world}
use Rattle.board_play.proofs.player.happen_all.Given as goal

-- what happened so far and what is to happen are all
abbrev pub invariant-loop-event : goal.invariant-loop-event
invariant-loop-event g l =
    let next = next_world g.N.Actor.transition in
    record {
      world : fold next l.world (into_iter_items l.event-iterator) ≡ fold next l.initial.world (into_iter_items l.initial.event-iterator);
      noted : l.noted ++ into_iter_items l.event-iterator ≡ l.initial.noted ++ into_iter_items l.initial.event-iterator;
    }

use Rattle.std.proofs.Common.{◌≡◌, fold, drop}
use Rattle.world_base.specs.NextWorld.{next_world, start_world}
use Rattle.disk_play.proofs.replay.world_after.Given as goal

-- the events so far and those to come are all
abbrev pub invariant-loop-event : goal.invariant-loop-event
invariant-loop-event g l =
    fold (next_world g.N.Actor.transition) l.world (drop l.event-index l.events) ≡ fold (next_world g.N.Actor.transition)
    (start_world g.N.Member.first l.script) l.events

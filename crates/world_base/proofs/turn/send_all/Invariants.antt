use Rattle.std.proofs.Common.{◌≡◌, ◌++◌, map}
use Rattle.std.specs.Vec.Iter.{into_iter_items}
use Rattle.world_base.specs.NextWorld.{sent_at}
use Rattle.world_base.proofs.turn.send_all.Given as goal

-- what was sent so far and what is to come are all
abbrev pub invariant-loop-packet : goal.invariant-loop-packet
invariant-loop-packet l =
    l.sent ++ map (sent_at l.clock) (into_iter_items l.packet-iterator) ≡ l.initial.sent ++ map (sent_at l.clock) (into_iter_items l.initial.packet-iterator)

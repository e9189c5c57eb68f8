use Rattle.std.proofs.Common.{◌≡◌, ◌++◌, map}
use Rattle.std.specs.Vec.Iter.{into_iter_items}
use Rattle.world_base.specs.NextWorld.{sent_at}
use Rattle.live_links.proofs.letter.shared_all.Given as goal

-- the packets so far and those to come are all
abbrev pub invariant-loop-packet : goal.invariant-loop-packet
invariant-loop-packet l = l.shared ++ map (sent_at l.clock) (into_iter_items l.packet-iterator) ≡ map (sent_at l.clock) l.fn.packets

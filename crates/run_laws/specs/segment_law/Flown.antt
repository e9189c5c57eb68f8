-- What was ever in flight in the log of a client: each such segment tells of blocks at first hand, in every run of the nodes.
use Rattle.std.specs.Prelude.{ℕ}
use Rattle.node_logs.specs.client_log_tie.ClientEvents.{ServesStraight}
use Rattle.node_logs.specs.client_log_tie.Puts.{PutsOwn, ServesBy}
use Rattle.core_world.specs.declared.any_node.AnyNode.{AnyNode}
use Rattle.log_law.specs.Events.{Runs}
use Rattle.log_law.specs.Net.{Net, Owner}
use Rattle.log_law.specs.Net.Owner.{Down, Opening, Writing, Serving}
use Rattle.log_protocol.specs.Tables.{In}
use Rattle.log_tie.specs.Setting.{Setting}
use Rattle.segment_format.specs.declared.segment.Segment.{Segment}
use Rattle.run_laws.specs.segment_tie.Segments.{IsOriginal, WritesNothing, WritesOriginals}
use Rattle.world_base.specs.declared.estate.Estate.{Estate}
use Rattle.run_laws.specs.world_logs.Lines.{Line}
use Rattle.headline.specs.Logs.Role.{OfClient}

-- each segment that was in flight up to now tells of blocks at first hand
abbrev pub FlewOriginals : Net → Type 0
FlewOriginals n = (s : Segment) → In s n.flown → IsOriginal s

-- what the owner writes now: one that opens the log a segment without items, and one that serves versions of its own
abbrev pub OwnerWrites : Owner → Type 0
OwnerWrites Down = Unit {0}
OwnerWrites (Opening scan) = Unit {0}
OwnerWrites (Writing chain s) = WritesNothing s
OwnerWrites (Serving s) = WritesOriginals s

-- the small world of a log in which it was always so
pub record IsOriginalLog (n : Net) : Type 0 where
  pub owner : OwnerWrites n.owner
  pub flew : FlewOriginals n

-- So it goes on over what an event of the client makes of it.
abbrev pub LogsGoOnOriginal : Type 0
LogsGoOnOriginal = (g : Setting) (n o : Net) (runs : Runs g n o) → ServesStraight runs → ServesBy PutsOwn n o → IsOriginalLog n → IsOriginalLog o

-- At each count of the events of a run it is so of each client's log: so of what is filed there, which was in flight.
abbrev pub ClientsFlewOriginals : Type 0
ClientsFlewOriginals = (base : Setting) (e : Estate AnyNode) (c : ℕ) (line : Line base e (OfClient c)) (count : ℕ) → IsOriginalLog (line.scene count).net

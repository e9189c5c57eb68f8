-- What the owners of logs write, at each moment of each run of the nodes.
use Rattle.std.specs.Prelude.{◌≡◌, ℕ, Some}
use Rattle.std.specs.List.{AllByRecursion}
use Rattle.core_world.specs.AnyNode.{any_start, any_step}
use Rattle.core_world.specs.declared.any_node.AnyNode.{AnyNode}
use Rattle.core_world.specs.declared.any_node.AnyNode.TheVariants as any
use Rattle.world_base.specs.declared.estate.Estate.{Estate}
use Rattle.world_base.specs.Runs.{IsRun}
use Rattle.headline.specs.Moments.{moment, node_named}
use Rattle.wire_msg.specs.declared.packet.Packet.{Packet}
use Rattle.xfs_base.specs.declared.node.NodeId.{NodeId}
use Rattle.run_laws.specs.segment_tie.Cleaners.{CleanerWrites, TellsVersion}
use Rattle.run_laws.specs.segment_tie.Clients.{ClientWrites}
use Rattle.run_laws.specs.segment_tie.Managers.{ManagerWrites}

-- a client or a manager writes so
abbrev pub NodeWrites : AnyNode → Type 0
NodeWrites (any.Client node) = ClientWrites node.phase
NodeWrites (any.Manager node) = ManagerWrites node.phase
NodeWrites (any.Server node) = Unit {0}
NodeWrites (any.Cleaner node) = Unit {0}
NodeWrites (any.Registry node) = Unit {0}

-- the cleaner writes so
abbrev pub NodeCopies : AnyNode → Type 0
NodeCopies (any.Cleaner node) = CleanerWrites node.phase
NodeCopies _ = Unit {0}

abbrev pub PacketTellsVersion : Packet → Type 0
PacketTellsVersion packet = TellsVersion packet.body

-- at each moment of a run each client and each manager writes so
abbrev pub OwnersWrite : Estate AnyNode → Type 0
OwnersWrite e = (count : ℕ) (name : NodeId) (node : AnyNode) → node_named (moment e count) name ≡ Some node → NodeWrites node

-- So does the cleaner, at each moment up to which managers that told of live blocks told versions from 1 on.
abbrev pub CleanerCopies : Estate AnyNode → Type 0
CleanerCopies e =
    (count : ℕ) → AllByRecursion PacketTellsVersion (moment e count).sent → (name : NodeId) (node : AnyNode)
    → node_named (moment e count) name ≡ Some node → NodeCopies node

abbrev pub RunsWriteOriginals : Type 0
RunsWriteOriginals = (e : Estate AnyNode) → IsRun any_step any_start e.script e.events e.world → OwnersWrite e

abbrev pub RunsWriteCopies : Type 0
RunsWriteCopies = (e : Estate AnyNode) → IsRun any_step any_start e.script e.events e.world → CleanerCopies e

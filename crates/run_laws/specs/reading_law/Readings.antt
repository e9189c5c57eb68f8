-- What holds of the readers of segments at each moment of a run: what they hold came in packets that were sent to them, and is cut as the registry's map says.
use Rattle.std.specs.Prelude.{◌≡◌, ℕ, List, length, Option, Some, None}
use Rattle.cleaner_node.specs.declared.cleaner.Cleaner.{Cleaner}
use Rattle.core_world.specs.AnyNode.{any_start, any_step}
use Rattle.core_world.specs.declared.any_node.AnyNode.{AnyNode}
use Rattle.core_world.specs.declared.any_node.AnyNode.TheVariants as any
use Rattle.group_map.specs.declared.group.Group.{Group}
use Rattle.node_base.specs.Setups.{IsSetup}
use Rattle.node_tellings.specs.reading_tie.Arrivals.{Cut, Cuts, answered_in, cut_by, BodyMaps}
use Rattle.node_tellings.specs.reading_tie.CleanerMeets.{CleanerMeets, listed_in}
use Rattle.node_tellings.specs.reading_tie.CleanerReads.{CleanerHolds}
use Rattle.node_tellings.specs.reading_tie.ClientReads.{ClientHolds}
use Rattle.node_tellings.specs.reading_tie.ManagerReads.{ManagerHolds}
use Rattle.token_protocol.specs.Basics.{In}
use Rattle.wire_msg.specs.declared.packet.Packet.{Packet}
use Rattle.world_base.specs.declared.estate.Estate.{Estate}
use Rattle.world_base.specs.declared.world.World.{World}
use Rattle.world_base.specs.Runs.{IsRun}
use Rattle.headline.specs.Moments.{moment, node_named}
use Rattle.headline.specs.Servers.{group_at}
use Rattle.xfs_base.specs.declared.node.NodeId.{NodeId}

-- how a group cuts a segment; over nothing where there is none
abbrev pub cut_of : Option Group → Cut
cut_of None = record { members = 0; parity = 0 }
cut_of (Some group) = record { members = length group.members; parity = group.parity }

-- how the groups of the registry's map at the end of a run cut
abbrev pub cuts_at : World AnyNode → Cuts
cuts_at end id = cut_of (group_at end id)

-- what the cleaner holds came in these packets, and each segment that its job is about was listed in them
pub record CleanerCame (packets : List Packet) (to : NodeId) (cuts : Cuts) (cleaner : Cleaner) : Type 0 where
  pub holds : CleanerHolds (answered_in packets to) (cut_by cuts) cleaner
  pub meets : CleanerMeets (listed_in packets to) cleaner

-- what a node of this name holds came in these packets, and is cut so; servers and the registry read nothing
abbrev pub AnyHolds : List Packet → NodeId → Cuts → AnyNode → Type 0
AnyHolds packets to cuts (any.Client node) = ClientHolds (answered_in packets to) (cut_by cuts) node
AnyHolds packets to cuts (any.Manager node) = ManagerHolds (answered_in packets to) (cut_by cuts) node
AnyHolds packets to cuts (any.Server node) = Unit {0}
AnyHolds packets to cuts (any.Cleaner node) = CleanerCame packets to cuts node
AnyHolds packets to cuts (any.Registry node) = Unit {0}

-- What each node holds came in packets that were sent to it by then, and all that it reads is cut as the registry's map at the end of the run says, as are the
-- maps that were sent.
pub record ReadingsCame (end w : World AnyNode) : Type 0 where
  pub nodes : (name : NodeId) (node : AnyNode) → node_named w name ≡ Some node → AnyHolds w.sent name (cuts_at end) node
  pub maps : (packet : Packet) → In packet w.sent → BodyMaps (cuts_at end) packet.body

-- so it is at each moment of each run of a script of whose setup a run can be started
abbrev pub RunsReadWhatCame : Type 0
RunsReadWhatCame =
    (e : Estate AnyNode) → IsSetup e.script.setup → IsRun any_step any_start e.script e.events e.world → (count : ℕ) → ReadingsCame e.world (moment e count)

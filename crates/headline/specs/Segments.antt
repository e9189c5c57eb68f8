-- What was filed stands: of each segment that its owner told to be filed, and that no server was told to delete, each member of its group holds its fragment or
-- has lost its disk since; and one name has one text.
use Rattle.std.specs.Prelude.{◌≡◌, ◌≤◌, ℕ, Some}
use Rattle.core_world.specs.declared.any_node.AnyNode.{AnyNode}
use Rattle.fragment_store.specs.ShelfState.{ShelfState, held_at}
use Rattle.group_map.specs.declared.group.Group.{Group}
use Rattle.manager_slots.specs.Lasting.{log_of as managers_log}
use Rattle.segment_format.specs.declared.segment.Segment.{Segment}
use Rattle.token_protocol.specs.Basics.{In}
use Rattle.version_model.specs.declared.act.Act.TheVariants as act
use Rattle.wire_msg.specs.declared.body.Body.TheVariants as body
use Rattle.wire_msg.specs.declared.packet.Packet.{Packet}
use Rattle.wire_msg.specs.declared.storage.Delete.{Delete}
use Rattle.wire_msg.specs.declared.storage.Found.{Found}
use Rattle.wire_msg.specs.declared.storage.Store.{Store}
use Rattle.world_base.specs.declared.estate.Estate.{Estate}
use Rattle.world_base.specs.declared.world.World.{World}
use Rattle.world_base.specs.Runs.{WasSent}
use Rattle.xfs_base.specs.declared.fragment.Fragment.{Fragment}
use Rattle.xfs_base.specs.declared.node.NodeId.TheVariants as nodes
use Rattle.xfs_base.specs.declared.segment.LogId.{LogId}
use Rattle.xfs_base.specs.declared.segment.SegName.{SegName}
use Rattle.xfs_base.specs.Logs.{cleaner_log}
use Rattle.headline.specs.Logs.{did}
use Rattle.headline.specs.Moments.{moment}
use Rattle.headline.specs.Servers.{IsKept, group_at, piece, shelf_at}

-- the log of this number
abbrev pub log_of : ℕ → LogId
log_of c = record { 0 = c }

-- whatever is held under a name, or was sent under it to be stored or as what is held, is a fragment of this segment, cut for this group
pub record IsText (w : World AnyNode) (name : SegName) (segment : Segment) (group : Group) : Type 0 where
  pub held : (v : ℕ) (shelf : ShelfState) (f : Fragment) → shelf_at w v ≡ Some shelf → held_at shelf.held name ≡ Some f → f ≡ piece segment group f.meta.index
  pub stored : (v : ℕ) (packet : Packet) (m : Store) → WasSent w.sent packet → packet.to ≡ nodes.Server v → packet.body ≡ body.Store m
      → m.fragment.meta.name ≡ name
      → m.fragment ≡ piece segment group m.fragment.meta.index
  pub told : (packet : Packet) (m : Found) → WasSent w.sent packet → packet.body ≡ body.Fragment m → m.fragment.meta.name ≡ name
      → m.fragment ≡ piece segment group m.fragment.meta.index

-- each name of the log has one text
abbrev pub HasOneText : World AnyNode → ℕ → Type 0
HasOneText w c = (name : SegName) → name.log ≡ log_of c → (segment : Segment) × (group : Group) × IsText w name segment group

-- no server was told to delete the segment
abbrev pub NotDeleted : World AnyNode → SegName → Type 0
NotDeleted w name = (packet : Packet) (m : Delete) → WasSent w.sent packet → packet.body ≡ body.Delete m → m.name ≡ name → ⊥

-- There is a segment of this name, the one of the name where that is of this log, and its group is one of the registry's, by its map at the end of the run: of
-- that group each member holds its fragment, or its server has lost its disk since the group was made.
pub record IsWhole (end w : World AnyNode) (c : ℕ) (name : SegName) : Type 0 where
  pub segment : Segment
  pub named : segment.name ≡ name
  pub group : Group
  pub striped : group_at end segment.group ≡ Some group
  pub kept : IsKept w segment group
  pub text : name.log ≡ log_of c → IsText w name segment group

-- so it is of each segment that the owner of the log has told to be filed, unless a Delete of it was sent
abbrev pub LogIsWhole : Estate AnyNode → ℕ → ℕ → Type 0
LogIsWhole e count c = (name : SegName) → In (act.Filed name) (did e c count) → NotDeleted (moment e count) name → IsWhole e.world (moment e count) c name

pub record LogStands (e : Estate AnyNode) (count c : ℕ) : Type 0 where
  pub whole : LogIsWhole e count c
  pub one_text : HasOneText (moment e count) c

-- so it is of the log of each client, at each moment of a run
abbrev pub LogsStand : Estate AnyNode → Type 0
LogsStand e = (count c : ℕ) → 1 ≤ c → c ≤ e.script.setup.clients → LogStands e count c

-- so it is of the cleaner's log
abbrev pub CleanersLogStands : Estate AnyNode → Type 0
CleanersLogStands e = (count : ℕ) → LogStands e count cleaner_log.0

-- and of the log of each manager
abbrev pub ManagersLogsStand : Estate AnyNode → Type 0
ManagersLogsStand e = (count j : ℕ) → 1 ≤ j → j ≤ e.script.setup.managers → LogStands e count (managers_log j).0

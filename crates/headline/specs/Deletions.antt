-- What servers are told to delete was dropped, and lies below the least horizon of its log (the 1996 paper, "The Log Cleaner").
use Rattle.std.specs.Prelude.{◌≡◌, ◌<◌, ℕ, suc, List, Some, slice_get}
use Rattle.core_world.specs.declared.any_node.AnyNode.{AnyNode}
use Rattle.log_scan.specs.Transition.{least_horizon}
use Rattle.registry.specs.Board.{board_slots}
use Rattle.registry.specs.BoardState.{BoardState}
use Rattle.token_protocol.specs.Basics.{In}
use Rattle.version_model.specs.declared.act.Act.TheVariants.{Dropped}
use Rattle.wire_msg.specs.declared.body.Body.TheVariants as body
use Rattle.wire_msg.specs.declared.packet.Packet.{Packet}
use Rattle.wire_msg.specs.declared.storage.Delete.{Delete}
use Rattle.world_base.specs.declared.estate.Estate.{Estate}
use Rattle.world_base.specs.declared.event.Event.{Event}
use Rattle.world_base.specs.declared.world.World.{World}
use Rattle.world_base.specs.Events.{node_of}
use Rattle.xfs_base.specs.declared.node.NodeId.TheVariants.{Cleaner, Registry}
use Rattle.xfs_base.specs.declared.segment.SegName.{SegName}
use Rattle.headline.specs.Horizons.{board_of}
use Rattle.headline.specs.Logs.{IsThere, Role, log_by}
use Rattle.headline.specs.Moments.{acts_in, moment, node_named}

-- a Delete of the segment is among these
abbrev pub Deletes : SegName → List Packet → Type 0
Deletes name packets = (p : Packet) × In p packets × (p.body ≡ body.Delete (record { name = name }))

-- the cleaner alone tells servers to delete segments
abbrev pub OnlyTheCleanerDeletes : List Packet → Type 0
OnlyTheCleanerDeletes sent = (p : Packet) (m : Delete) → In p sent → p.body ≡ body.Delete m → p.from ≡ Cleaner

-- what a server has been told to delete was dropped
abbrev pub DeletedWasDropped : World AnyNode → Type 0
DeletedWasDropped w = (name : SegName) → Deletes name w.sent → In (Dropped name) w.acts

-- what the cleaner drops in the event at this place is told to a server by its end
abbrev pub DroppedIsTold : Estate AnyNode → ℕ → Type 0
DroppedIsTold e count =
    (event : Event) → slice_get e.events count ≡ Some event → node_of event ≡ Cleaner → (name : SegName)
    → In (Dropped name) (acts_in (moment e count) event) → Deletes name (moment e (suc count)).sent

-- At each moment of a run: no node but the cleaner has told a server to delete anything, and no server is told to delete a segment that wasn't dropped by then,
-- or in that event.
pub record DropsWhatItDeletes (e : Estate AnyNode) : Type 0 where
  pub alone : (count : ℕ) → OnlyTheCleanerDeletes (moment e count).sent
  pub dropped : (count : ℕ) → DeletedWasDropped (moment e count)
  pub told : (count : ℕ) → DroppedIsTold e count

-- A segment of an owner's log that a server has been told to delete is below the least horizon of that log which the registry keeps. Of a manager's log that
-- is 1, below which there is no segment.
abbrev pub DeletesBelowHorizons : Estate AnyNode → Type 0
DeletesBelowHorizons e =
    (count : ℕ) (r : Role) → IsThere e.script.setup.clients e.script.setup.managers r → (b : BoardState)
    → board_of (node_named (moment e count) Registry) ≡ Some b → (name : SegName) → Deletes name (moment e count).sent
    → name.log ≡ record { 0 = log_by r } → name.seq < least_horizon (log_by r) (board_slots b)

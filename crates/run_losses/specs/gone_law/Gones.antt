-- What a manager says is gone it said was lost while it took the slot over, in the words of a run of the nodes.
use Rattle.std.specs.Prelude.{◌≡◌, ℕ, All, Some, slice_get}
use Rattle.client_serving.specs.declared.serving.Serving.{Serving}
use Rattle.core_world.specs.AnyNode.{any_start, any_step}
use Rattle.core_world.specs.declared.any_node.AnyNode.{AnyNode}
use Rattle.headline.specs.Reads.{BringsGone, SaidLost, ToldLost, serving_at}
use Rattle.manager_node.specs.declared.manager.Manager.{Manager as ManagerNode}
use Rattle.manager_node.specs.declared.phase.Phase.{Phase}
use Rattle.manager_node.specs.Events.{manager_step}
use Rattle.manager_slots.specs.declared.slot_phase.SlotPhase.TheVariants as phase
use Rattle.node_base.specs.Setups.{IsSetup}
use Rattle.headline.specs.Managers.{slot_in}
use Rattle.headline.specs.Takeovers.{slot_at}
use Rattle.token_protocol.specs.Basics.{In}
use Rattle.version_model.specs.declared.act.Act.TheVariants as act
use Rattle.wire_msg.specs.declared.body.Body.{Body}
use Rattle.wire_msg.specs.declared.body.Body.TheVariants as body
use Rattle.wire_msg.specs.declared.packet.Do.{Do}
use Rattle.wire_msg.specs.declared.packet.Packet.{Packet}
use Rattle.wire_msg.specs.declared.tokens.Gone.{Gone}
use Rattle.world_base.specs.declared.estate.Estate.{Estate}
use Rattle.world_base.specs.declared.event.Event.{Event}
use Rattle.world_base.specs.Events.{node_of, what_of}
use Rattle.world_base.specs.Runs.{IsRun}
use Rattle.headline.specs.Moments.{acts_in, moment}
use Rattle.headline.specs.Logs.{IsThere}
use Rattle.headline.specs.Logs.Role.{OfManager}
use Rattle.xfs_base.specs.Blocks.{slot_of}
use Rattle.xfs_base.specs.declared.node.NodeId.TheVariants.{Client, Manager}
use Rattle.xfs_base.specs.declared.segment.SegName.{SegName}

-- ---- what a manager answers

-- of a Gone this is so
abbrev pub IfGone : (Gone → Type 0) → Body → Type 0
IfGone A (body.Gone g) = A g
IfGone A _ = Unit {0}

-- the slot of its block is broken, in the epoch that it names and by the segment that it names
abbrev pub IsOfBroken : Phase → Gone → Type 0
IsOfBroken p g = slot_in (slot_of g.block.ino.0) p ≡ phase.Broken g.epoch g.seg

-- so it is of each Gone that any event has a manager send
abbrev pub GonesAreOfBroken : Type 0
GonesAreOfBroken = (m : ManagerNode) (what : Do) → All (λ (p : Packet). IfGone (IsOfBroken m.phase) p.body) (manager_step m what).packets

-- ---- over the counts of a run

module _ (e : Estate AnyNode) (j : ℕ) where
  -- so it did of each slot that is broken
  abbrev pub BrokenSlotsWereLost : Type 0
  BrokenSlotsWereLost =
      (count slot epoch : ℕ) (name : SegName) → slot_at e j slot count ≡ phase.Broken epoch name → SaidLost e j count slot epoch name

  -- and of each Gone that it has sent
  abbrev pub GonesWereLost : Type 0
  GonesWereLost =
      (count : ℕ) (p : Packet) (g : Gone) → In p (moment e count).sent → p.from ≡ Manager j → p.body ≡ body.Gone g
      → SaidLost e j count (slot_of g.block.ino.0) g.epoch g.seg

-- ---- what a client is told

module _ (e : Estate AnyNode) where
  -- so it is where a client that serves says, at an event that brings it a Gone, that the segment that this names is lost
  abbrev pub GoneLossesTold : Type 0
  GoneLossesTold =
      (c count : ℕ) (event : Event) → slice_get e.events count ≡ Some event → Client c ≡ node_of event → (s : Serving)
      → serving_at e c count ≡ Some s → (name : SegName) → In (act.Lost (Client c) name) (acts_in (moment e count) event) → BringsGone s (what_of event) name
      → ToldLost e c s count (what_of event) name

-- ---- every run of a script of whose setup a run can be started

abbrev pub ManagersSayGoneWhatTheyLost : Type 0
ManagersSayGoneWhatTheyLost =
    (e : Estate AnyNode) → IsSetup e.script.setup → IsRun any_step any_start e.script e.events e.world
    → (j : ℕ) → IsThere e.script.setup.clients e.script.setup.managers (OfManager j) → BrokenSlotsWereLost e j × GonesWereLost e j

abbrev pub ClientsAreToldWhatWasLost : Type 0
ClientsAreToldWhatWasLost = (e : Estate AnyNode) → IsSetup e.script.setup → IsRun any_step any_start e.script e.events e.world → GoneLossesTold e

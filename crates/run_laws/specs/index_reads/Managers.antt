-- What the index gives tokens: what comes to a manager, where the small world of the index knows it, is what the small world of tokens asks of it.
use Rattle.std.specs.Prelude.{ℕ, true}
use Rattle.index_tie.specs.Net as index
use Rattle.manager_node.specs.declared.phase.Phase.{Phase}
use Rattle.manager_slots.specs.declared.slot_phase.SlotPhase.{SlotPhase}
use Rattle.node_slots.specs.node_index_tie.ManagerEvents as places
use Rattle.node_slots.specs.node_index_tie.Pages.{Desk}
use Rattle.node_slots.specs.node_index_tie.Sight.{Questions, held_in}
use Rattle.headline.specs.Filed.{AreTexts, Texts}
use Rattle.node_slots.specs.node_tie.ManagerEvents as owners
use Rattle.token_law.specs.Net as tokens
use Rattle.wire_msg.specs.declared.deltas.Deltas.{Deltas}
use Rattle.wire_msg.specs.declared.deltas.Report.{Report}
use Rattle.wire_msg.specs.declared.packet.Do.{Do}
use Rattle.wire_msg.specs.declared.storage.Found.{Found}
use Rattle.wire_msg.specs.declared.storage.Missing.{Missing}
use Rattle.run_laws.specs.world_law.Owes.{ManagerTold}
use Rattle.xfs_base.specs.declared.node.NodeId.{NodeId}
use Rattle.run_laws.specs.index_reads.Ties.{Tied}

-- A moment of both small worlds, in each of which a manager's slot is seen; what is filed are the texts of their names.
pub record SlotSeen (members part : ℕ) (texts : Texts) (t : tokens.Net) (i : index.Net) (p : SlotPhase) : Type 0 where
  pub tied : Tied members part (held_in part texts) t i
  pub filed : AreTexts texts i.filed
  pub tokens_see : owners.PhaseAgrees members part t p
  pub desk : Desk
  pub index_sees : places.PhaseAgrees part texts i desk p

-- Deltas that tell what their log filed cover the index of the slot that they join on to.
abbrev pub DeltasAreCovered : Type 0
DeltasAreCovered =
    (members part j : ℕ) (texts : Texts) (asked : Questions) (t : tokens.Net) (i : index.Net) (p : SlotPhase) (from : NodeId) (m : Deltas)
    → SlotSeen members part texts t i p → places.DeltasGets part texts asked j i from m → owners.DeltasGets true members part t p from m

-- A takeover that a report ends gathered what was filed: each log up to its reported end at least, no further than it is filed, and of each block the newest
-- version of that.
abbrev pub ReportsGather : Type 0
ReportsGather =
    (members part j : ℕ) (texts : Texts) (asked : Questions) (t : tokens.Net) (i : index.Net) (p : SlotPhase) (from : NodeId) (m : Report)
    → SlotSeen members part texts t i p → places.ReportGets part texts asked j i from m → owners.LastReportGets true members part t p from m

-- And so it is where what a server found ends it.
abbrev pub FoundGather : Type 0
FoundGather =
    (members part j : ℕ) (texts : Texts) (asked : Questions) (t : tokens.Net) (i : index.Net) (p : SlotPhase) (from : NodeId) (m : Found)
    → SlotSeen members part texts t i p → places.FoundGets part texts asked j i p from m → owners.FoundGets true members part t p from m

-- Or what it didn't find.
abbrev pub MissingGather : Type 0
MissingGather =
    (members part j : ℕ) (texts : Texts) (asked : Questions) (t : tokens.Net) (i : index.Net) (p : SlotPhase) (from : NodeId) (m : Missing)
    → SlotSeen members part texts t i p → places.AbsentGets part texts asked j i p from m → owners.AbsentGets true members part t p from m

-- So each event of a manager that both small worlds see is owed what the small world of tokens asks of it.
abbrev pub ManagersAreTold : Type 0
ManagersAreTold =
    (members part j : ℕ) (texts : Texts) (asked : Questions) (t : tokens.Net) (i : index.Net) (p : Phase) (what : Do)
    → Tied members part (held_in part texts) t i
    → AreTexts texts i.filed → owners.ManagerAgrees members part t j p → places.ManagerAgrees part texts i p
    → places.EventGets part texts asked j i p what → ManagerTold members part t p what

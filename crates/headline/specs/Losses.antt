-- Only what is gone is refused as lost: each act of a run that a segment is lost is earned (the 1996 paper, on RAID).
use Rattle.std.specs.Prelude.{◌≡◌, ◌⊎◌, ◌≤◌, ℕ, suc, true, false, List, [], ◌∷◌, ◌++◌, Some, is_some, slice_get, take}
use Rattle.client_serving.specs.declared.serving.Serving.{Serving}
use Rattle.core_world.specs.declared.any_node.AnyNode.{AnyNode}
use Rattle.token_protocol.specs.Basics.{In}
use Rattle.version_model.specs.declared.act.Act.{Act}
use Rattle.version_model.specs.declared.act.Act.TheVariants as act
use Rattle.version_model.specs.declared.answer.Answer.TheVariants as answer
use Rattle.wire_msg.specs.declared.packet.Do.{Do}
use Rattle.world_base.specs.declared.estate.Estate.{Estate}
use Rattle.world_base.specs.declared.event.Event.{Event}
use Rattle.world_base.specs.Events.{node_of, what_of}
use Rattle.world_base.specs.Items.{works_of}
use Rattle.world_base.specs.Runs.{begins_of}
use Rattle.xfs_base.specs.declared.node.NodeId.{NodeId}
use Rattle.xfs_base.specs.declared.node.NodeId.TheVariants.{Client, Manager}
use Rattle.xfs_base.specs.declared.segment.SegName.{SegName}
use Rattle.headline.specs.Logs.{IsThere, Role, owner_by, renews}
use Rattle.headline.specs.Logs.Role.{OfClient, OfManager}
use Rattle.headline.specs.Moments.{acts_in, moment}
use Rattle.headline.specs.Openings.{WasWhole, scan_at}
use Rattle.headline.specs.Reads.{ToldTorn, WasTornInRead, serving_at}
use Rattle.headline.specs.Restarts.{LosesNone, NoDoubtfulRestart}
use Rattle.headline.specs.Takeovers.{WasFiledAndLost, WasTornOrDeleted}

module _ (e : Estate AnyNode) where
  -- A node says, at what happens to it at a moment, that the segment of a name is lost. There are three cases, and no other.
  pub data IsEarned (count : ℕ) (what : Do) (name : SegName) : NodeId → Type 0 where
    -- A client, or the cleaner, scans its log to open it: the segment was torn at a moment since it began to, whole there but for lost disks.
    WhileItOpened : (r : Role) → IsThere e.script.setup.clients e.script.setup.managers r → renews r ≡ false → is_some (scan_at e r count) ≡ true
        → WasWhole e r count name → IsEarned count what name (owner_by r)
    -- A manager takes a slot over: the segment was torn at a moment from which on it read it for that, or servers have been told to delete it; and up to the
    -- first doubtful restart it had been filed by that moment.
    ToTakeover : (j : ℕ) → IsThere e.script.setup.clients e.script.setup.managers (OfManager j) → WasTornOrDeleted e j count name
        → (NoDoubtfulRestart e count → WasFiledAndLost e j count name) → IsEarned count what name (Manager j)
    -- A client serves, and its item waits for its answer: up to the first doubtful restart such a manager told it so, in the epoch that the client has
    -- promised, and the segment was torn while that manager read it; or it was torn while the call of the item read it. By then it had been filed, and not
    -- deleted.
    ToRead : (c : ℕ) → IsThere e.script.setup.clients e.script.setup.managers (OfClient c) → (s : Serving) → serving_at e c count ≡ Some s
        → (item : ℕ) → s.lasting.items.unanswered ≡ Some item → (NoDoubtfulRestart e count → ToldTorn e c s count what name ⊎ WasTornInRead e c count name)
        → IsEarned count what name (Client c)

-- In each event, what is said to be lost the node of the event says, and it is earned.
abbrev pub EachLostActIsEarned : Estate AnyNode → Type 0
EachLostActIsEarned e =
    (count : ℕ) (event : Event) → slice_get e.events count ≡ Some event → (node : NodeId) (name : SegName)
    → In (act.Lost node name) (acts_in (moment e count) event) → (node ≡ node_of event) × IsEarned e count (what_of event) name node

-- the act that a node answers an item that a segment is lost
abbrev pub answers_lost : NodeId → ℕ → SegName → Act
answers_lost node item name = act.Answered node item (answer.Lost name)

-- wherever among these acts a node answers an item that a segment is lost, the act just before it says of the same node that this very segment is lost
abbrev pub LossesAreSaid : List Act → Type 0
LossesAreSaid acts =
    (node : NodeId) (item : ℕ) (name : SegName) (before behind : List Act) → acts ≡ before ++ answers_lost node item name ∷ behind
    → (front : List Act) × (before ≡ front ++ act.Lost node name ∷ [])

-- no item is answered by these acts that a segment is lost
abbrev pub NoneIsLost : List Act → Type 0
NoneIsLost acts = (node : NodeId) (item : ℕ) (name : SegName) → In (answers_lost node item name) acts → ⊥

-- what is answered to be lost in a run was said to be lost
pub record LostAnswersEarned (e : Estate AnyNode) : Type 0 where
  -- in each event: where a node answers an item that a segment is lost, it has said just before, in the same event, that this very segment is lost
  pub said : (count : ℕ) (event : Event) → slice_get e.events count ≡ Some event → LossesAreSaid (acts_in (moment e count) event)
  -- and by the end of this event the node has begun so many items, this one among them
  pub begun : (count : ℕ) (event : Event) → slice_get e.events count ≡ Some event → (node : NodeId) (item : ℕ) (name : SegName)
      → In (answers_lost node item name) (acts_in (moment e count) event) → item ≤ begins_of node (take (suc count) e.events)

-- In no event of the run a client, or the cleaner, says that a segment is lost; and no item is answered so. A manager may say so where nothing is lost: what it
-- reads too late, while another has the slot already, may have been deleted.
pub record NothingIsLost (e : Estate AnyNode) : Type 0 where
  pub said : (count : ℕ) (event : Event) → slice_get e.events count ≡ Some event → (r : Role) → renews r ≡ false → (name : SegName)
      → In (act.Lost (owner_by r) name) (acts_in (moment e count) event) → ⊥
  pub answered : (count : ℕ) (event : Event) → slice_get e.events count ≡ Some event → NoneIsLost (acts_in (moment e count) event)

-- So it is where no line of the script has a server lose its disk.
abbrev pub WithoutLossesNothingIsLost : Estate AnyNode → Type 0
WithoutLossesNothingIsLost e = LosesNone (works_of e.script.lines) → NothingIsLost e

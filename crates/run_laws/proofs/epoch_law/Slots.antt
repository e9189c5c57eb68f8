-- The same epochs have managers in both small worlds: a slot that enters that of the index is managed from then on, and so it is in that of tokens.
use Rattle.std.proofs.Common.{◌≡◌, ℕ, Bool, List, [], Option, None, Some, slice_set, refl, sym, ap, subst, ◌∙◌}
use Rattle.core_world.specs.declared.any_node.AnyNode.{AnyNode}
use Rattle.core_world.specs.declared.any_node.AnyNode.TheVariants as any
use Rattle.index_tie.proofs.Tables.{put_each}
use Rattle.index_tie.specs.Net as index
use Rattle.manager_node.specs.declared.manager.Manager.{Manager as ManagerNode}
use Rattle.manager_node.specs.declared.phase.Phase.{Phase}
use Rattle.manager_node.specs.declared.phase.Phase.TheVariants.{Down, Waiting, Serving as Serves}
use Rattle.manager_node.specs.Events.{happens}
use Rattle.manager_slots.specs.declared.slot_phase.SlotPhase.{SlotPhase}
use Rattle.manager_slots.specs.declared.slot_phase.SlotPhase.TheVariants as phase
use Rattle.node_slots.proofs.node_index_tie.Moves.{some_none}
use Rattle.headline.specs.Filed.{Texts}
use Rattle.node_slots.specs.node_tie.ManagerEvents.{ManagedAt, ManagerAgrees, PhaseAgrees}
use Rattle.headline.specs.Managers.{phase_at, slot_in}
use Rattle.token_law.specs.Net as tokens
use Rattle.token_manager.specs.SlotState.{SlotState}
use Rattle.token_manager.specs.Transition as slot
use Rattle.version_model.specs.declared.act.Act.{Act}
use Rattle.wire_msg.specs.declared.packet.Do.{Do}
use Rattle.wire_msg.specs.declared.packet.Packet.{Packet}
use Rattle.world_base.specs.Cluster.{place_of}
use Rattle.world_base.specs.declared.cluster.Cluster.{Cluster}
use Rattle.run_laws.specs.world_index.Owes.{Makes}
use Rattle.run_laws.proofs.world_law.Nodes.{here}
use Rattle.run_laws.specs.world_law.Standing as owners
use Rattle.headline.specs.Moments.{node_in}
use Rattle.xfs_base.specs.declared.node.NodeId.{NodeId}
use Rattle.xfs_base.specs.declared.node.NodeId.TheVariants.{Client, Manager, Cleaner, Registry}
use Rattle.run_laws.proofs.epoch_law.Nodes.{is_one, one_manager}
use Rattle.run_laws.specs.epoch_law.Slots.{BothGo, SameSlots, SlotsStartSame, SlotsStaySame}

-- ---- the start

pub slots_start_same : SlotsStartSame
slots_start_same first e none =
    put_each (λ d o. tokens.opening.slots d ≡ None → o ≡ None) (λ d. None) 1 (Some (slot.slot_start 1 [] [] index.zeros))
    (λ absent. absurd (some_none (slot.slot_start 1 [] [] index.zeros) absent)) (λ d other absent. refl) e none

-- ---- an event

-- a slot that a manager manages is there in the small world of tokens
slot_there : (members part : ℕ) (t : tokens.Net) (p : SlotPhase) (e : ℕ) → PhaseAgrees members part t p → ManagedAt p e → t.slots e ≡ None → ⊥
slot_there members part t (phase.Active a) e agreed managed none = some_none agreed.slot (sym agreed.there ∙ (ap t.slots managed ∙ none))
slot_there members part t (phase.Taking x) e agreed managed none = managed
slot_there members part t (phase.Away epoch) e agreed managed none = managed
slot_there members part t (phase.Broken epoch seg) e agreed managed none = managed

managed_there : (members part : ℕ) (t : tokens.Net) (j : ℕ) (p : Phase) (e : ℕ) → ManagerAgrees members part t j p → ManagedAt (slot_in part p) e
    → t.slots e ≡ None → ⊥
managed_there members part t j (Serves s) e agreed managed none = slot_there members part t (phase_at s.slots part) e agreed.table.here managed none
managed_there members part t j (Down kept) e agreed managed none = managed
managed_there members part t j (Waiting kept hello) e agreed managed none = managed

module _ (logs : Bool) (k : Cluster) (part : ℕ) (texts : Texts) (nodes : List AnyNode) (place : ℕ) (what : Do) (sent : List Packet) (acts : List Act)
    (t next : owners.Scene) (n m : index.Net) (same : SameSlots t.net n) where
  abbrev Goes : NodeId → AnyNode → Type 0
  Goes name node = BothGo logs k part texts nodes place what sent acts name node t next n m

  -- an event that leaves the slots of the index as they are
  as_it_was : (name : NodeId) (node : AnyNode) → Goes name node → m.slots ≡ n.slots → SameSlots next.net m
  as_it_was name node go slots e none = ap (λ (f : ℕ → Option SlotState). f e) slots ∙ same e (go.leaves e none)

  -- an event of a manager
  abbrev after_event : ManagerNode → ManagerNode
  after_event node = record node { phase = (happens node what).state }

  manager_goes : (j : ℕ) (node : ManagerNode) → Goes (Manager j) (any.Manager node) → SameSlots next.net m
  manager_goes j node go e none = by (m.slots e) refl
    where
      at_after : node_in (slice_set nodes place (any.Manager (after_event node))) (place_of k (Manager j)) ≡ Some (any.Manager (after_event node))
      at_after = here k nodes (Manager j) place go.placed (any.Manager (after_event node)) (any.Manager node) go.stands

      is_after : next.manager j ≡ after_event node
      is_after =
          let one = is_one k (slice_set nodes place (any.Manager (after_event node))) j (any.Manager (after_event node)) at_after in
          one_manager (next.manager j) (after_event node) _ (go.tokens.placed.managers j one.some one.limit) at_after

      enters : (z : SlotState) → m.slots e ≡ Some z → ⊥
      enters z fact =
          let one = is_one k (slice_set nodes place (any.Manager (after_event node))) j (any.Manager (after_event node)) at_after in
          managed_there (owners.members k part) part next.net j (after_event node).phase e
          (subst (λ (x : ManagerNode). ManagerAgrees (owners.members k part) part next.net j x.phase) is_after
          (go.tokens.managers j one.some one.limit).agrees)
          (go.index.entered e z fact (same e (go.leaves e none))) none

      by : (o : Option SlotState) → m.slots e ≡ o → m.slots e ≡ None
      by None fact = fact
      by (Some z) fact = absurd (enters z fact)

  goes : (name : NodeId) (node : AnyNode) → Goes name node → Makes part texts n m name node what → SameSlots next.net m
  goes (Client c) (any.Client node) go fact = as_it_was (Client c) (any.Client node) go (ap (λ (x : index.Net). x.slots) fact)
  goes (Manager j) (any.Manager node) go fact = manager_goes j node go
  goes Cleaner (any.Cleaner node) go fact = as_it_was Cleaner (any.Cleaner node) go fact.slots
  goes Registry (any.Registry node) go fact = as_it_was Registry (any.Registry node) go fact.slots
  goes name node go fact = as_it_was name node go (ap (λ (x : index.Net). x.slots) fact)

pub slots_stay_same : SlotsStaySame
slots_stay_same logs k part texts nodes place what sent acts name node t next n m same go =
    goes logs k part texts nodes place what sent acts t next n m same name node go go.index

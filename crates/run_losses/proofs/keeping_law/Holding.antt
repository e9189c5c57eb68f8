-- At a moment of a run that stands to the small world of a slot's index: the slot that a manager manages is that world's slot of its epoch, and what a server
-- was told to delete was to be deleted there.
use Rattle.std.proofs.Common.{◌≡◌, ℕ, ◌<◌, ◌≤◌, List, Some, sym, subst, ◌∙◌}
use Rattle.core_world.specs.declared.any_node.AnyNode.{AnyNode}
use Rattle.core_world.specs.declared.any_node.AnyNode.TheVariants as any
use Rattle.log_protocol.specs.Tables as tables
use Rattle.manager_node.specs.declared.manager.Manager.{Manager as ManagerNode}
use Rattle.manager_node.specs.declared.phase.Phase.{Phase}
use Rattle.manager_node.specs.declared.phase.Phase.TheVariants as managing
use Rattle.manager_slots.specs.declared.slot_phase.SlotPhase.{SlotPhase}
use Rattle.manager_slots.specs.declared.slot_phase.SlotPhase.TheVariants as phase
use Rattle.node_slots.specs.node_index_tie.ManagerEvents.{ManagerAgrees, PhaseAgrees}
use Rattle.node_slots.specs.node_index_tie.Pages.{Desk, desk_of}
use Rattle.headline.specs.Filed.{Texts}
use Rattle.headline.specs.Managers.{active_in, phase_at, slot_in}
use Rattle.node_slots.specs.node_tie.RegistryEvents.{RegistrySound}
use Rattle.segment_format.specs.declared.segment.Segment.{Segment}
use Rattle.token_manager.specs.SlotState.{SlotState}
use Rattle.token_protocol.specs.Basics.{In}
use Rattle.wire_msg.specs.declared.body.Body.TheVariants as body
use Rattle.wire_msg.specs.declared.packet.Packet.{Packet}
use Rattle.wire_msg.specs.declared.storage.Delete.{Delete}
use Rattle.world_base.specs.Cluster.{place_of}
use Rattle.world_base.specs.declared.cluster.Cluster.{Cluster}
use Rattle.run_laws.specs.world_index.Standing.{Scene, SentBy, Stands}
use Rattle.run_laws.proofs.world_law.Laws.{one_node}
use Rattle.run_laws.specs.world_law.Standing as tokens
use Rattle.headline.specs.Moments.{node_in}
use Rattle.xfs_base.specs.declared.node.NodeId.{NodeId}
use Rattle.xfs_base.specs.declared.node.NodeId.TheVariants.{Client, Manager, Server, Cleaner, Registry}

-- the cleaner alone has servers delete
deletes_by : (k : Cluster) (part : ℕ) (s : tokens.Scene) (m : Delete) (from to : NodeId) → tokens.SentBy k part s from to (body.Delete m) → from ≡ Cleaner
deletes_by k part s m (Client c) to h = absurd h.2
deletes_by k part s m (Manager j) to h = absurd h.2
deletes_by k part s m (Server v) to h = absurd h
deletes_by k part s m Cleaner to h = λ i. Cleaner
deletes_by k part s m Registry to h = absurd h

same_manager : (a b : ManagerNode) → any.Manager a ≡ any.Manager b → a ≡ b
same_manager a b same = cc

module _ (k : Cluster) (part : ℕ) (texts : Texts) (first : ℕ → ℕ → Segment) (nodes : List AnyNode) (sent : List Packet) (s : Scene)
    (st : Stands k part texts first nodes sent RegistrySound s) where
  slot_there : (desk : Desk) (p : SlotPhase) → PhaseAgrees part texts s.net desk p → (z : SlotState) → active_in p ≡ Some z → s.net.slots z.epoch ≡ Some z
  slot_there desk (phase.Active a) agreed z premise = subst (λ x. s.net.slots x.epoch ≡ Some x) (one_node a.slot z premise) agreed.there
  slot_there desk (phase.Taking t) agreed z premise = absurd (cc)
  slot_there desk (phase.Away epoch) agreed z premise = absurd (cc)
  slot_there desk (phase.Broken epoch seg) agreed z premise = absurd (cc)

  phase_there : (p : Phase) → ManagerAgrees part texts s.net p → (z : SlotState) → active_in (slot_in part p) ≡ Some z → s.net.slots z.epoch ≡ Some z
  phase_there (managing.Serving v) agreed z premise = slot_there (desk_of v agreed.0.given) (phase_at v.slots part) agreed.0.here z premise
  phase_there (managing.Down kept) agreed z premise = absurd (cc)
  phase_there (managing.Waiting kept hello) agreed z premise = absurd (cc)

  pub managed_there : (j : ℕ) → 0 < j → j ≤ k.managers → (manager : ManagerNode) → node_in nodes (place_of k (Manager j)) ≡ Some (any.Manager manager)
      → (z : SlotState) → active_in (slot_in part manager.phase) ≡ Some z → s.net.slots z.epoch ≡ Some z
  managed_there j some limit manager there z premise =
      let same : s.manager j ≡ manager =
      same_manager (s.manager j) manager (one_node (any.Manager (s.manager j)) (any.Manager manager) (sym (st.placed.managers j some limit) ∙ there)) in
      phase_there (s.manager j).phase (st.managers j some limit) z (subst (λ (x : ManagerNode). active_in (slot_in part x.phase) ≡ Some z) (sym same) premise)

  pub was_to_be_deleted : (t : tokens.Scene) (p : Packet) (m : Delete) → In p sent → tokens.Fact k part t p → p.body ≡ body.Delete m
      → tables.In m.name s.net.deleted
  was_to_be_deleted t p m among fact premise =
      let from : p.from ≡ Cleaner = deletes_by k part t m p.from p.to (subst (tokens.SentBy k part t p.from p.to) premise fact) in
      subst (λ b. SentBy part s.net s.asked Cleaner b) premise (subst (λ n. SentBy part s.net s.asked n p.body) from (st.facts p among))

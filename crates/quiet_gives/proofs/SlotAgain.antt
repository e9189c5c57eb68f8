-- Managers by their slots alone: where a slot changes twice, only the last change is seen; and a packet that comes to the manager of one slot, again and again.
use Rattle.std.proofs.Common.{◌≡◌, ℕ, ◌==◌, true, false, cond, List, [], ◌∷◌, ◌++◌, map, refl, sym, ap, ◌∙◌}
use Rattle.core_world.specs.AnyNode.{as_any}
use Rattle.core_world.specs.declared.any_node.AnyNode.{AnyNode}
use Rattle.core_world.specs.declared.any_node.AnyNode.TheVariants as any
use Rattle.manager_node.specs.declared.phase.Phase.TheVariants as managing
use Rattle.manager_node.specs.Events.{manager_step}
use Rattle.manager_slots.specs.declared.slot_phase.SlotPhase.{SlotPhase}
use Rattle.manager_slots.specs.declared.slot_phase.SlotPhase.TheVariants as phase
use Rattle.manager_slots.specs.Slots.{managed}
use Rattle.manager_node.specs.declared.manager.Manager.{Manager as ManagerNode}
use Rattle.node_base.specs.Nodes.{has_node, peers_of}
use Rattle.quiet_flow.specs.Flow.{unclocked}
use Rattle.token_manager.specs.SlotState.{SlotState}
use Rattle.version_model.specs.declared.act.Act.{Act}
use Rattle.version_model.specs.declared.work.Work.{Work}
use Rattle.wire_msg.specs.declared.body.Body.{Body}
use Rattle.wire_msg.specs.declared.packet.Do.TheVariants.{Deliver}
use Rattle.wire_msg.specs.declared.packet.Packet.{Packet}
use Rattle.wire_msg.specs.NodeStep.{NodeStep}
use Rattle.xfs_base.specs.declared.node.NodeId.{NodeId}
use Rattle.xfs_base.specs.declared.node.NodeId.TheVariants.{Manager}
use Rattle.xfs_base.specs.declared.setup.Setup.{Setup}
use Rattle.xfs_base.specs.Limits.{all_slots}
use Rattle.quiet_nodes.specs.Moves.{IsFrame, Moves}
use Rattle.quiet_nodes.specs.Scene.{Scene, manager_at, manager_of_slot, managing_at, phase_at, put_number, with_slot}
use Rattle.quiet_nodes.proofs.Moving.{moves_next}
use Rattle.quiet_nodes.proofs.Staging.{slot_frame}

module _ (setup : Setup) (works : NodeId → List Work) where
  map_same : {X : Type 0} (f g : ℕ → X) → ((m : ℕ) → f m ≡ g m) → (xs : List ℕ) → map f xs ≡ map g xs
  map_same f g same [] = refl
  map_same f g same (x ∷ xs) = ap (λ y. y ∷ map f xs) (same x) ∙ ap (λ ys. g x ∷ ys) (map_same f g same xs)

  -- slots that are the same make the same manager
  pub same_manager : (j : ℕ) (f g : ℕ → SlotState) → ((m : ℕ) → f m ≡ g m) → manager_at setup works j f ≡ manager_at setup works j g
  same_manager j f g same =
      ap with_table
      (map_same (phase_at setup works f j) (phase_at setup works g j)
      (λ m. ap (λ z. cond (manager_of_slot setup works m == j) (managed z) (phase.Away 1)) (same m)) all_slots)
    where
      with_table : List SlotPhase → ManagerNode
      with_table table = record (manager_at setup works j f) { phase = managing.Serving (record (managing_at setup works j f) { slots = table }) }

  pub put_twice : {X : Type 0} (f : ℕ → X) (i : ℕ) (x y : X) (m : ℕ) → put_number (put_number f i x) i y m ≡ put_number f i y m
  put_twice f i x y m = elim (m == i) as (λ t. cond t y (cond t x (f m)) ≡ cond t y (f m)) [ true ↦ refl | false ↦ refl ]

  module _ (s : Scene) (i : ℕ) where
    frame_both : (x y : SlotState) → IsFrame setup works (Manager (manager_of_slot setup works i)) (with_slot s i x) (with_slot s i y)
    frame_both x y other differs = sym (slot_frame setup works i x s other differs) ∙ slot_frame setup works i y s other differs

    -- a packet comes to the manager of the slot, and the rest of the layer follows
    pub slot_takes_again : (x y : SlotState) (u : Scene) (from : NodeId) (said : Body) (packets layer outs : List Packet) (acts done : List Act)
        → has_node (peers_of setup) (Manager (manager_of_slot setup works i)) ≡ true
        → manager_step (manager_at setup works (manager_of_slot setup works i) (put_number s.slot i x))
        (Deliver (record { from = from; to = Manager (manager_of_slot setup works i); clock = 0; body = said }))
        ≡ record { node = manager_at setup works (manager_of_slot setup works i) (put_number (put_number s.slot i x) i y); packets = packets; acts = acts }
        → Moves setup works (with_slot s i y) layer outs done u
        → Moves setup works (with_slot s i x) (record { from = from; to = Manager (manager_of_slot setup works i); clock = 0; body = said } ∷ layer)
        (map unclocked packets ++ outs) (acts ++ done) u
    slot_takes_again x y u from said packets layer outs acts done there is rest =
        moves_next setup works (with_slot s i x) (with_slot s i y) u (record { from = from; to = Manager (manager_of_slot setup works i); clock = 0; body = said })
        packets layer outs acts done there
        (ap (as_any any.Manager) is
        ∙ ap with_node (same_manager (manager_of_slot setup works i) (put_number (put_number s.slot i x) i y) (put_number s.slot i y) (put_twice s.slot i x y)))
        (frame_both x y) rest
      where
        with_node : ManagerNode → NodeStep AnyNode
        with_node node = record { node = any.Manager node; packets = packets; acts = acts }

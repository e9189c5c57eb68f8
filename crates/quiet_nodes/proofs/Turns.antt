-- A packet comes to one client, or to the manager of one slot, and the rest of the layer follows.
use Rattle.std.proofs.Common.{◌≡◌, ℕ, true, List, ◌∷◌, ◌++◌, map, sym, ap, ◌∙◌}
use Rattle.client_node.specs.Phases.{client_step}
use Rattle.core_world.specs.AnyNode.{any_step, as_any}
use Rattle.core_world.specs.declared.any_node.AnyNode.{AnyNode}
use Rattle.core_world.specs.declared.any_node.AnyNode.TheVariants as any
use Rattle.manager_node.specs.Events.{manager_step}
use Rattle.node_base.specs.Nodes.{has_node, peers_of}
use Rattle.quiet_flow.specs.Flow.{unclocked}
use Rattle.token_manager.specs.SlotState.{SlotState}
use Rattle.version_model.specs.declared.act.Act.{Act}
use Rattle.version_model.specs.declared.work.Work.{Work}
use Rattle.wire_msg.specs.declared.body.Body.{Body}
use Rattle.wire_msg.specs.declared.packet.Do.{Do}
use Rattle.wire_msg.specs.declared.packet.Do.TheVariants.{Deliver}
use Rattle.wire_msg.specs.declared.packet.Packet.{Packet}
use Rattle.wire_msg.specs.NodeStep.{NodeStep}
use Rattle.xfs_base.specs.declared.node.NodeId.{NodeId}
use Rattle.xfs_base.specs.declared.node.NodeId.TheVariants.{Client, Manager}
use Rattle.xfs_base.specs.declared.setup.Setup.{Setup}
use Rattle.quiet_nodes.specs.Moves.{IsFrame, Moves}
use Rattle.quiet_nodes.specs.Scene.{ClientPart, Scene, client_at, manager_at, manager_of_slot, node_at, put_number, with_client, with_slot}
use Rattle.quiet_nodes.proofs.Moving.{moves_next}
use Rattle.quiet_nodes.proofs.Staging.{client_frame, client_put, slot_frame}

module _ (setup : Setup) (works : NodeId → List Work) (s : Scene) where
  -- ---- one client

  module _ (c : ℕ) where
    pub client_frame_both : (p q : ClientPart) → IsFrame setup works (Client c) (with_client s c p) (with_client s c q)
    client_frame_both p q other differs = sym (client_frame setup works c p s other differs) ∙ client_frame setup works c q s other differs

    -- what happens to a client is what happens to it in the scene
    pub client_turns : (p q : ClientPart) (what : Do) (packets : List Packet) (acts : List Act)
        → client_step (client_at setup works c p) what ≡ record { node = client_at setup works c q; packets = packets; acts = acts }
        → any_step (node_at setup works (with_client s c p) (Client c)) what
        ≡ record { node = node_at setup works (with_client s c q) (Client c); packets = packets; acts = acts }
    client_turns p q what packets acts is =
        ap (λ node. any_step node what) (client_put setup works c p s)
        ∙ ap (as_any any.Client) is
        ∙ ap with_node (sym (client_put setup works c q s))
      where
        with_node : AnyNode → NodeStep AnyNode
        with_node node = record { node = node; packets = packets; acts = acts }

    pub client_takes : (p q : ClientPart) (u : Scene) (from : NodeId) (said : Body) (packets layer outs : List Packet) (acts done : List Act)
        → has_node (peers_of setup) (Client c) ≡ true
        → client_step (client_at setup works c p) (Deliver (record { from = from; to = Client c; clock = 0; body = said }))
        ≡ record { node = client_at setup works c q; packets = packets; acts = acts }
        → Moves setup works (with_client s c q) layer outs done u
        → Moves setup works (with_client s c p) (record { from = from; to = Client c; clock = 0; body = said } ∷ layer) (map unclocked packets ++ outs) (acts ++ done) u
    client_takes p q u from said packets layer outs acts done there is rest =
        moves_next setup works (with_client s c p) (with_client s c q) u (record { from = from; to = Client c; clock = 0; body = said }) packets layer outs acts done
        there (client_turns p q (Deliver (record { from = from; to = Client c; clock = 0; body = said })) packets acts is) (client_frame_both p q) rest

  -- ---- the manager of one slot

  module _ (i : ℕ) (z : SlotState) where
    pub slot_takes : (u : Scene) (from : NodeId) (said : Body) (packets layer outs : List Packet) (acts done : List Act)
        → has_node (peers_of setup) (Manager (manager_of_slot setup works i)) ≡ true
        → manager_step (manager_at setup works (manager_of_slot setup works i) s.slot)
        (Deliver (record { from = from; to = Manager (manager_of_slot setup works i); clock = 0; body = said }))
        ≡ record { node = manager_at setup works (manager_of_slot setup works i) (put_number s.slot i z); packets = packets; acts = acts }
        → Moves setup works (with_slot s i z) layer outs done u
        → Moves setup works s (record { from = from; to = Manager (manager_of_slot setup works i); clock = 0; body = said } ∷ layer) (map unclocked packets ++ outs)
        (acts ++ done) u
    slot_takes u from said packets layer outs acts done there is rest =
        moves_next setup works s (with_slot s i z) u (record { from = from; to = Manager (manager_of_slot setup works i); clock = 0; body = said }) packets layer outs acts
        done there (ap (as_any any.Manager) is) (slot_frame setup works i z s) rest

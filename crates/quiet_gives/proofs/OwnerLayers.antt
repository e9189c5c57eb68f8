-- Parts of a layer of packets, a packet that comes to one client of a scene, and an acknowledgement that says nothing new.
use Rattle.std.proofs.Common.{◌≡◌, ℕ, ◌+◌, ◌<◌, ◌==◌, true, false, nat_lt, List, [], ◌∷◌, ◌++◌, map, slice_index, None, refl, sym, ap, ◌∙◌, length, suc}
use Rattle.std.specs.Prelude.{flat_map}
use Rattle.client_node.specs.Phases.{client_step, on_deliver}
use Rattle.client_serving.specs.Packets.{on_ack, serving_take}
use Rattle.core_world.specs.AnyNode.{any_step, as_any}
use Rattle.core_world.specs.declared.any_node.AnyNode.{AnyNode}
use Rattle.core_world.specs.declared.any_node.AnyNode.TheVariants as any
use Rattle.manager_slots.specs.Tokens.{tokens_say}
use Rattle.node_base.specs.Effects.{acts_of}
use Rattle.node_base.specs.Nodes.{has_node, peers_of}
use Rattle.quiet_flow.proofs.Flowing.{delivers_then}
use Rattle.quiet_flow.specs.Flow.{unclocked}
use Rattle.slot_beliefs.specs.declared.job.Wanted.{Wanted}
use Rattle.token_client.specs.State.{epoch_of}
use Rattle.token_manager.specs.SlotState.{SlotState}
use Rattle.token_manager.specs.Transition.{answer}
use Rattle.version_model.specs.declared.act.Act.{Act}
use Rattle.version_model.specs.declared.work.Work.{Work}
use Rattle.wire_msg.specs.declared.body.Body.{Body}
use Rattle.wire_msg.specs.declared.body.Body.TheVariants as body
use Rattle.wire_msg.specs.declared.packet.Do.TheVariants.{Deliver}
use Rattle.wire_msg.specs.declared.packet.Packet.{Packet}
use Rattle.wire_msg.specs.NodeStep.{NodeStep}
use Rattle.xfs_base.specs.declared.node.NodeId.{NodeId}
use Rattle.xfs_base.specs.declared.node.NodeId.TheVariants.{Client, Manager}
use Rattle.xfs_base.specs.declared.segment.SegName.{SegName}
use Rattle.xfs_base.specs.declared.setup.Setup.{Setup}
use Rattle.group_map.specs.declared.group.Member.{Member}
use Rattle.log_flight.specs.Flights.{FlightState}
use Rattle.quiet_nodes.specs.Layers.{storeds_by, stores_to}
use Rattle.quiet_nodes.specs.Moves.{Moves}
use Rattle.quiet_nodes.specs.Scene.{ClientPart, Scene, client_at, serving_at, with_client}
use Rattle.quiet_nodes.proofs.Begins.{HasRoom, room}
use Rattle.quiet_nodes.proofs.Moving.{after_both, moves_next}
use Rattle.quiet_nodes.proofs.Rooms.{promised}
use Rattle.quiet_nodes.proofs.Running.{runs_none}
use Rattle.quiet_nodes.proofs.Staging.{client_frame, client_put}
use Rattle.quiet_nodes.proofs.Tests.{lt_test}

module _ (setup : Setup) (works : NodeId → List Work) where
  -- two parts of a layer, one after the other
  pub moves_both : (s m u : Scene) (first layer outs more : List Packet) (done then_ : List Act) → Moves setup works s first outs done m
      → Moves setup works m layer more then_ u → Moves setup works s (first ++ layer) (outs ++ more) (done ++ then_) u
  moves_both s m u first layer outs more done then_ a b t placed =
      (let x = a t placed in
      let y = b x.end x.is_after.placed in
      record {
        end = y.end;
        delivers = delivers_then any_step setup t x.end y.end first layer outs more x.delivers y.delivers;
        is_after = after_both setup works t x.end y.end done then_ m u x.is_after y.is_after;
      })

  -- a packet comes to a client of a scene
  pub client_first : (s u : Scene) (c : ℕ) (p q : ClientPart) (from : NodeId) (what : Body) (packets layer outs : List Packet) (done then_ : List Act) → s.client c ≡ p
      → has_node (peers_of setup) (Client c) ≡ true
      → client_step (client_at setup works c p) (Deliver (record { from = from; to = Client c; clock = 0; body = what }))
      ≡ record { node = client_at setup works c q; packets = packets; acts = done }
      → Moves setup works (with_client s c q) layer outs then_ u
      → Moves setup works s (record { from = from; to = Client c; clock = 0; body = what } ∷ layer) (map unclocked packets ++ outs) (done ++ then_) u
  client_first s u c p q from what packets layer outs done then_ same there is rest =
      moves_next setup works s (with_client s c q) u (record { from = from; to = Client c; clock = 0; body = what }) packets layer outs done then_ there
      (ap (λ x. any_step (any.Client (client_at setup works c x)) (Deliver (record { from = from; to = Client c; clock = 0; body = what }))) same
      ∙ ap (as_any any.Client) is
      ∙ ap with_node (sym (client_put setup works c q s)))
      (client_frame setup works c q s) rest
    where
      with_node : AnyNode → NodeStep AnyNode
      with_node x = record { node = x; packets = packets; acts = done }

-- a client with no open call hears once more what it knows to be applied
module _ (setup : Setup) (works : NodeId → List Work) (c j i applied : ℕ) (p : ClientPart) where
  abbrev ack_packet : Packet
  ack_packet = record { from = Manager j; to = Client c; clock = 0; body = body.DeltaAck (record { slot = i; epoch = 1; applied = applied }) }

  module _ (h : HasRoom setup works c p) (idle : p.call ≡ None) (there : has_node (peers_of setup) (Manager j) ≡ true) (within : i < 8)
      (known : nat_lt (slice_index p.acked i) applied ≡ false) where
    of_epoch : (epoch_of (1 ∷ 1 ∷ 1 ∷ 1 ∷ 1 ∷ 1 ∷ 1 ∷ 1 ∷ []) i == 1) ≡ true
    of_epoch = ap (λ n. n == 1) (promised i within)

    ack_is : serving_take (serving_at setup works c p) ack_packet ≡ record { state = serving_at setup works c p; outs = [] }
    unfolding serving_take on_ack
    ack_is = rw (lt_test i 8 within, of_epoch, known) refl

    pub ack_again : client_step (client_at setup works c p) (Deliver ack_packet) ≡ record { node = client_at setup works c p; packets = []; acts = [] }
    unfolding on_deliver
    ack_again = rw (room setup works c p h, there, lt_test i 8 within, ack_is, runs_none (serving_at setup works c p) idle) refl

-- a slot that answers a want has no act done
pub answers_quietly : (m slot epoch : ℕ) (z : SlotState) (w : Wanted) (cs : List ℕ) → acts_of (Manager m) (flat_map (tokens_say slot epoch) (answer z w cs ∷ [])) ≡ []
unfolding tokens_say
answers_quietly m slot epoch z w [] = refl
answers_quietly m slot epoch z w (c ∷ cs) = refl

-- ---- how many packets

module _ (c : ℕ) where
  pub length_stores : (f : FlightState) (xs : List Member) (place : ℕ) → length (stores_to c f xs place) ≡ length xs
  length_stores f [] place = refl
  length_stores f (x ∷ xs) place = ap suc (length_stores f xs (place + 1))

  pub length_storeds : (name : SegName) (xs : List Member) (place : ℕ) → length (storeds_by c name xs place) ≡ length xs
  length_storeds name [] place = refl
  length_storeds name (x ∷ xs) place = ap suc (length_storeds name xs (place + 1))

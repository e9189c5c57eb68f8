-- Deltas that come to a manager, and its acknowledgement that comes back, while no want waits.
use Rattle.std.proofs.Common.{◌≡◌, ℕ, ◌<◌, ◌==◌, true, cond, nat_lt, List, [], ◌∷◌, slice_set, None, refl, ap, ◌∙◌}
use Rattle.std.specs.Prelude.{flat_map, slice_index}
use Rattle.client_node.specs.Phases.{client_step, on_deliver as client_delivers}
use Rattle.client_serving.specs.Packets.{on_ack, serving_take}
use Rattle.manager_node.specs.declared.phase.Phase.TheVariants as managing
use Rattle.manager_node.specs.Events.{manager_step, manager_deliver}
use Rattle.manager_node.specs.Phases.{phase_has_room, serves}
use Rattle.manager_slots.specs.Slots.{managed}
use Rattle.manager_slots.specs.SlotTable as table
use Rattle.manager_slots.specs.SlotTable.{at_slot}
use Rattle.manager_slots.specs.Tokens as tokens
use Rattle.manager_slots.specs.Tokens.{tokens_say}
use Rattle.manager_serving.specs.declared.serving.Serving.{Serving}
use Rattle.manager_serving.specs.Serving as serving
use Rattle.manager_serving.specs.Serving.{with_slots}
use Rattle.node_base.specs.Effects.{acts_of, packets_of}
use Rattle.node_base.specs.Known.{names_known_groups}
use Rattle.node_base.specs.Maps.{maps_start}
use Rattle.node_base.specs.Nodes.{has_node, peers_of}
use Rattle.node_base.specs.Shape.{is_well_formed}
use Rattle.slot_beliefs.specs.Recalls.{applied_of, applied_upto, is_followed, ready_blocks}
use Rattle.token_client.specs.State.{epoch_of}
use Rattle.token_manager.specs.declared.input.In.TheVariants as input
use Rattle.token_manager.specs.declared.output.Out.{Out}
use Rattle.token_manager.specs.declared.output.Out.TheVariants as out
use Rattle.token_manager.specs.SlotState.{SlotState}
use Rattle.token_manager.specs.Transition.{can_apply, joins_on, transition, with_deltas}
use Rattle.version_model.specs.declared.work.Work.{Work}
use Rattle.wire_msg.specs.declared.body.Body.TheVariants as body
use Rattle.wire_msg.specs.declared.deltas.Deltas.{Deltas}
use Rattle.wire_msg.specs.declared.packet.Do.TheVariants.{Deliver}
use Rattle.wire_msg.specs.declared.packet.Packet.{Packet}
use Rattle.xfs_base.specs.declared.block.BlockId.{BlockId}
use Rattle.xfs_base.specs.declared.entry.Entry.{Entry}
use Rattle.xfs_base.specs.declared.node.NodeId.{NodeId}
use Rattle.xfs_base.specs.declared.node.NodeId.TheVariants.{Client, Manager}
use Rattle.xfs_base.specs.declared.segment.LogId.{LogId}
use Rattle.xfs_base.specs.declared.setup.Setup.{Setup}
use Rattle.xfs_base.specs.Steps.{Stepped, still}
use Rattle.quiet_nodes.specs.Scene.{ClientPart, client_at, its_groups, manager_at, manager_of_slot, managing_at, put_number, serving_at}
use Rattle.quiet_nodes.proofs.Begins.{HasRoom, room}
use Rattle.quiet_nodes.proofs.Managing.{slot_comes}
use Rattle.quiet_nodes.proofs.Running.{runs_none}

-- deltas that join on are merged, and acknowledged
pub deltas_merge : (z : SlotState) (log : LogId) (first upto : ℕ) (rows : List (BlockId × Entry)) → is_followed log ≡ true
    → joins_on (applied_of z.applied log.0) first upto ≡ true → can_apply z log upto rows ≡ true → ready_blocks z.jobs (applied_upto z.applied log upto) ≡ []
    → transition z (input.Deltas log first upto rows) ≡ record { state = with_deltas z log upto rows; outs = out.Applied log upto ∷ [] }
deltas_merge z log first upto rows followed joins can none = rw (followed, joins, can, none) refl

module _ (setup : Setup) (works : NodeId → List Work) (j c clock : ℕ) (slots : ℕ → SlotState) (m : Deltas) (within : m.slot < 8)
    (own : (manager_of_slot setup works m.slot == j) ≡ true) (has_room : phase_has_room (manager_at setup works j slots).phase ≡ true) where
  abbrev packet : Packet
  packet = record { from = Client c; to = Manager j; clock = clock; body = body.Deltas m }

  module _ (fits : is_well_formed (peers_of setup) packet ≡ true) (known : names_known_groups (maps_start (its_groups setup works)) (body.Deltas m) ≡ true) where
    abbrev serves_now : Serving
    serves_now = managing_at setup works j slots

    hears_is : serving.serving_hear serves_now setup.clients packet ≡ with_slots serves_now (at_slot serves_now.slots m.slot (λ p. tokens.on_deltas p (record { 0 = c }) m))
    unfolding serving.serving_hear serving.on_deltas table.on_deltas
    hears_is = rw known refl

    deliver_is : manager_deliver (peers_of setup) (managing.Serving serves_now) packet
        ≡ serves (with_slots serves_now (at_slot serves_now.slots m.slot (λ p. tokens.on_deltas p (record { 0 = c }) m)))
    unfolding manager_deliver
    deliver_is = ap (λ t. cond t (serves (serving.serving_hear serves_now setup.clients packet)) (still (managing.Serving serves_now))) fits ∙ ap serves hears_is

    module _ (z : SlotState) (outs : List Out)
        (is : transition (slots m.slot) (input.Deltas (record { 0 = c }) m.first m.upto m.rows) ≡ record { state = z; outs = outs }) where
      slot_is : tokens.on_deltas (managed (slots m.slot)) (record { 0 = c }) m
          ≡ record { state = managed z; outs = flat_map (tokens_say m.slot (slots m.slot).epoch) outs }
      unfolding tokens.tokens_take
      slot_is = ap (λ (d : Stepped SlotState Out). record { state = managed d.state; outs = flat_map (tokens_say m.slot (slots m.slot).epoch) d.outs }) is

      pub deltas_come : manager_step (manager_at setup works j slots) (Deliver packet) ≡ record {
        node = manager_at setup works j (put_number slots m.slot z);
        packets = packets_of (Manager j) (flat_map (tokens_say m.slot (slots m.slot).epoch) outs);
        acts = acts_of (Manager j) (flat_map (tokens_say m.slot (slots m.slot).epoch) outs);
      }
      deltas_come =
          slot_comes setup works j m.slot slots within own packet (λ p. tokens.on_deltas p (record { 0 = c }) m) z
          (flat_map (tokens_say m.slot (slots m.slot).epoch) outs) has_room deliver_is slot_is

-- a client with no open call hears what is applied
module _ (setup : Setup) (works : NodeId → List Work) (c j clock i applied : ℕ) (p : ClientPart) (h : HasRoom setup works c p) (idle : p.call ≡ None)
    (there : has_node (peers_of setup) (Manager j) ≡ true) (within : nat_lt i 8 ≡ true) (promised : (epoch_of (1 ∷ 1 ∷ 1 ∷ 1 ∷ 1 ∷ 1 ∷ 1 ∷ 1 ∷ []) i == 1) ≡ true)
    (news : nat_lt (slice_index p.acked i) applied ≡ true) where
  abbrev ack_packet : Packet
  ack_packet = record { from = Manager j; to = Client c; clock = clock; body = body.DeltaAck (record { slot = i; epoch = 1; applied = applied }) }

  abbrev pub acked_part : ClientPart
  acked_part = record p { acked = slice_set p.acked i applied }

  ack_is : serving_take (serving_at setup works c p) ack_packet ≡ record { state = serving_at setup works c acked_part; outs = [] }
  unfolding serving_take on_ack
  ack_is = rw (within, promised, news) refl

  pub ack_comes : client_step (client_at setup works c p) (Deliver ack_packet) ≡ record { node = client_at setup works c acked_part; packets = []; acts = [] }
  unfolding client_delivers
  ack_comes = rw (room setup works c p h, there, within, ack_is, runs_none (serving_at setup works c acked_part) idle) refl

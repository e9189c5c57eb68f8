-- A Stored that comes to a client whose segment is in flight, but not the last one: it is noted, and the sync goes on waiting.
use Rattle.std.proofs.Common.{◌≡◌, ℕ, true, List, [], Some, None, refl}
use Rattle.client_running.specs.Blocks.{blocks_make, blocks_sync}
use Rattle.client_log.specs.Transition as log
use Rattle.client_node.specs.Phases.{client_step, on_deliver}
use Rattle.client_call.specs.Calls.{call_new}
use Rattle.client_call.specs.declared.call.Plan.TheVariants.{One}
use Rattle.client_serving.specs.Flights as flights
use Rattle.client_serving.specs.Follow.{serving_seal}
use Rattle.client_serving.specs.Packets.{serving_take}
use Rattle.file_plan.specs.declared.block_call.BlockCall.TheVariants.{Sync}
use Rattle.log_flight.specs.Fate.{fate_of}
use Rattle.log_flight.specs.declared.flight.Fate.TheVariants.{Wait}
use Rattle.log_flight.specs.Flights.{FlightState, is_of, flight_note}
use Rattle.node_base.specs.Nodes.{has_node, peers_of}
use Rattle.node_base.specs.Shape.{is_name}
use Rattle.version_model.specs.declared.work.Work.{Work}
use Rattle.wire_msg.specs.declared.body.Body.TheVariants as body
use Rattle.wire_msg.specs.declared.packet.Do.TheVariants.{Deliver}
use Rattle.wire_msg.specs.declared.packet.Packet.{Packet}
use Rattle.xfs_base.specs.declared.node.NodeId.{NodeId}
use Rattle.xfs_base.specs.declared.node.NodeId.TheVariants.{Client, Server}
use Rattle.xfs_base.specs.declared.segment.SegName.{SegName}
use Rattle.xfs_base.specs.declared.setup.Setup.{Setup}
use Rattle.quiet_nodes.specs.Scene.{ClientPart, client_at, its_groups, log_at, serving_at}
use Rattle.quiet_nodes.proofs.Begins.{HasRoom, room}
use Rattle.quiet_nodes.proofs.Running.{runs_none, runs_waits}

module _ (setup : Setup) (works : NodeId → List Work) (c v clock index generation : ℕ) (name : SegName) (p : ClientPart) (f : FlightState)
    (flies : p.flight ≡ Some f) (its : is_of f name index generation ≡ true) (waits : fate_of (its_groups setup works) (flight_note f index) ≡ Wait) where
  abbrev pub noted_part : ClientPart
  noted_part = record p { flight = Some (flight_note f index) }

  log_notes : log.on_acked (log_at setup works c p) name index generation ≡ record { state = log_at setup works c noted_part; outs = [] }
  unfolding log.on_acked log.looked_at
  log_notes = rw (flies, its, waits) refl

  abbrev packet : Packet
  packet = record { from = Server v; to = Client c; clock = clock; body = body.Stored (record { name = name; index = index; generation = generation }) }

  packet_notes : serving_take (serving_at setup works c p) packet ≡ record { state = serving_at setup works c noted_part; outs = [] }
  unfolding serving_take flights.serving_write
  packet_notes = rw log_notes refl

  module _ (h : HasRoom setup works c p) (there : has_node (peers_of setup) (Server v) ≡ true) (named : is_name name ≡ true)
      (syncing : p.call ≡ Some (call_new One Sync)) where
    abbrev waiting : ClientPart
    waiting = record noted_part { call = None }

    sync_waits : blocks_make (serving_at setup works c waiting) Sync ≡ record { done = record { state = serving_at setup works c waiting; outs = [] }; answer = None }
    unfolding blocks_make blocks_sync serving_seal log.on_seal
    sync_waits = refl

    pub stored_comes : client_step (client_at setup works c p) (Deliver packet) ≡ record {
      node = client_at setup works c (record noted_part { call = Some (call_new One Sync) });
      packets = [];
      acts = [];
    }
    unfolding on_deliver
    stored_comes =
        rw (room setup works c p h, there, named, packet_notes, runs_waits (serving_at setup works c noted_part) Sync syncing (serving_at setup works c waiting) [] sync_waits) refl

  -- the same where no call is open
  pub stored_comes_idle : HasRoom setup works c p → has_node (peers_of setup) (Server v) ≡ true → is_name name ≡ true → p.call ≡ None
      → client_step (client_at setup works c p) (Deliver packet) ≡ record { node = client_at setup works c noted_part; packets = []; acts = [] }
  unfolding on_deliver
  stored_comes_idle h there named idle =
      rw (room setup works c p h, there, named, packet_notes, runs_none (serving_at setup works c noted_part) idle) refl

-- A put that makes 24 wait, when its item begins and at its Grant: the block is written, the item is answered, and the segment is sealed, in one event.
use Rattle.std.proofs.Common.{◌≡◌, ℕ, ◌+◌, ◌<◌, true, nat_le, List, [], ◌∷◌, ◌++◌, length, map, slice_get, Option, Some, None, is_none, refl, ap, ◌∙◌, append-nil}
use Rattle.std.proofs.lemmas.Grind.{flat_map-append}
use Rattle.client_call.specs.Calls.{call_new}
use Rattle.client_call.specs.declared.call.Plan.TheVariants.{One}
use Rattle.client_call.specs.Fitting.{put_fits}
use Rattle.client_log.specs.Transition as log
use Rattle.client_node.specs.Phases.{client_step, on_deliver, serves_on, stepped}
use Rattle.client_running.specs.Running.{run}
use Rattle.client_serving.specs.Packets.{on_grant, serving_take}
use Rattle.node_base.specs.Known.{knows_entry}
use Rattle.node_base.specs.Maps.{maps_start}
use Rattle.node_base.specs.Nodes.{has_node, peers_of}
use Rattle.node_base.specs.Room.{has_long_room}
use Rattle.node_base.specs.Shape.{is_entry}
use Rattle.token_client.proofs.Tables.{held_of-put_itself}
use Rattle.token_client.specs.declared.held.Held.{Held}
use Rattle.token_client.specs.Transition.{accepts}
use Rattle.wire_msg.specs.declared.body.Body.TheVariants as body
use Rattle.wire_msg.specs.declared.packet.Packet.{Packet}
use Rattle.xfs_base.specs.declared.entry.Entry.{Entry}
use Rattle.xfs_base.specs.declared.token.Mode.TheVariants.{Own}
use Rattle.xfs_base.specs.declared.token.Stamp.{Stamp}
use Rattle.file_plan.specs.declared.block_call.BlockAnswer.TheVariants as block
use Rattle.file_plan.specs.declared.block_call.BlockCall.TheVariants.{Put}
use Rattle.log_flight.specs.Flights.{FlightState}
use Rattle.node_base.specs.declared.effects.Effect.{Effect}
use Rattle.node_base.specs.declared.effects.Effect.TheVariants.{Answer}
use Rattle.node_base.specs.Effects.{act_of, acts_of, packet_of, packets_of}
use Rattle.quiet_flow.specs.Flow.{unclocked}
use Rattle.token_client.specs.Held.{may_write, held_own}
use Rattle.token_client.specs.State.{held_of}
use Rattle.version_model.specs.declared.act.Act.TheVariants as acts
use Rattle.version_model.specs.declared.answer.Answer.TheVariants.{Version}
use Rattle.version_model.specs.declared.work.Work.{Work}
use Rattle.version_model.specs.declared.work.Work.TheVariants as work
use Rattle.wire_msg.specs.declared.packet.Do.TheVariants.{Begin, Deliver}
use Rattle.xfs_base.specs.declared.block.BlockId.{BlockId}
use Rattle.xfs_base.specs.declared.node.NodeId.{NodeId}
use Rattle.xfs_base.specs.declared.node.NodeId.TheVariants.{Client, Manager}
use Rattle.xfs_base.specs.declared.setup.Setup.{Setup}
use Rattle.xfs_base.specs.Limits.{u32_end}
use Rattle.quiet_nodes.specs.Layers.{stores_to}
use Rattle.quiet_nodes.specs.Scene.{ClientPart, client_at, its_groups, serving_at, tokens_at}
use Rattle.quiet_nodes.proofs.Begins.{HasRoom, begin_steps, opened, room}
use Rattle.quiet_nodes.proofs.Filling.{filled_part, fills, put_fills}
use Rattle.quiet_nodes.proofs.Granting.{grant_hands, owning}
use Rattle.quiet_nodes.proofs.Puts.{put_part, waiting_then}
use Rattle.quiet_nodes.proofs.Running.{runs_answered}
use Rattle.quiet_nodes.proofs.Sealing.{its_flight, stores}
use Rattle.quiet_nodes.proofs.Sends.{acts_none, packets_are, unclocked_are}

module _ (setup : Setup) (works : NodeId → List Work) (c : ℕ) (q : ClientPart) (b : BlockId) (value : Option (List ℕ)) (item : ℕ) where
  -- what is done: the block is written, the fragments are sent, and the item is answered
  abbrev pub does : List Effect
  does = (fills setup works c q b value ++ []) ++ Answer item (Version ((held_of q.blocks b).ver + 1)) ∷ []

  abbrev f : FlightState
  f = its_flight setup works c (put_part q b value)

  abbrev sends : List Effect
  sends = stores setup works c (put_part q b value)

  abbrev last : List Effect
  last = Answer item (Version ((held_of q.blocks b).ver + 1)) ∷ []

  pub packets_so : map unclocked (packets_of (Client c) does) ≡ stores_to c f f.group.members 0
  unfolding log.sending_send
  packets_so =
      ap (λ outs. map unclocked (packets_of (Client c) (outs ++ last))) (append-nil sends)
      ∙ ap (map unclocked) (flat_map-append (packet_of (Client c)) sends last)
      ∙ ap (map unclocked) (append-nil (packets_of (Client c) sends))
      ∙ ap (map unclocked) (packets_are f refl c f.group.members 0)
      ∙ unclocked_are f refl c f.group.members 0

  pub acts_so : acts_of (Client c) does ≡ acts.Wrote c b value ∷ acts.Answered (Client c) item (Version ((held_of q.blocks b).ver + 1)) ∷ []
  unfolding log.sending_send
  acts_so =
      ap (λ outs. acts.Wrote c b value ∷ acts_of (Client c) (outs ++ last)) (append-nil sends)
      ∙ ap (λ xs. acts.Wrote c b value ∷ xs) (flat_map-append (act_of (Client c)) sends last)
      ∙ ap (λ xs. acts.Wrote c b value ∷ xs ++ acts.Answered (Client c) item (Version ((held_of q.blocks b).ver + 1)) ∷ []) (acts_none f refl c f.group.members 0)

module _ (setup : Setup) (works : NodeId → List Work) (c : ℕ) (p : ClientPart) (b : BlockId) (value : Option (List ℕ)) (h : HasRoom setup works c p)
    (left : p.begun < length (works (Client c))) (few : p.begun < u32_end) (next : slice_get (works (Client c)) p.begun ≡ Some (work.Bput c b value)) (idle : p.item ≡ None)
    (may : may_write (held_of p.blocks b) ≡ true) (fits : put_fits b ((held_of p.blocks b).ver + 1) value ≡ true) (lands : p.flight ≡ None)
    (full : nat_le 24 (length (waiting_then p b value)) ≡ true) (more : log.has_next p.end.seq ≡ true) where
  abbrev pub mid : ClientPart
  mid = opened setup works c p (call_new One (Put b value))

  abbrev pub filled_at_once : ClientPart
  filled_at_once = record (filled_part setup works c mid b value) { item = None }

  pub fills_begin : client_step (client_at setup works c p) Begin ≡ record {
    node = client_at setup works c filled_at_once;
    packets = packets_of (Client c) (does setup works c mid b value (p.begun + 1));
    acts = acts_of (Client c) (does setup works c mid b value (p.begun + 1));
  }
  fills_begin =
      begin_steps setup works c p (work.Bput c b value) (call_new One (Put b value)) h left few next idle (λ s n. refl) refl
      ∙ ap (λ d. stepped (client_at setup works c p) (serves_on d))
      (runs_answered (serving_at setup works c mid) (Put b value) refl (serving_at setup works c (filled_part setup works c mid b value))
      (fills setup works c mid b value ++ []) (block.Put ((held_of p.blocks b).ver + 1)) (put_fills setup works c mid b value may fits lands full more) refl)

-- at its Grant
module _ (setup : Setup) (works : NodeId → List Work) (c : ℕ) (p : ClientPart) (b : BlockId) (value : Option (List ℕ)) (item : ℕ)
    (its_call : p.call ≡ Some (call_new One (Put b value))) (its_item : p.item ≡ Some item) (stamp : Stamp) (req : ℕ) (entry : Entry)
    (accepted : accepts (tokens_at setup works p) b stamp 1 req Own ≡ true) (j : ℕ) (h : HasRoom setup works c p) (there : has_node (peers_of setup) (Manager j) ≡ true)
    (long : has_long_room entry.ver ≡ true) (of_log : is_entry entry.place ≡ true) (known : knows_entry (maps_start (its_groups setup works)) entry.place ≡ true)
    (none : is_none (held_of p.blocks b).giving ≡ true) (may : may_write (held_own (held_of p.blocks b) stamp entry.ver) ≡ true)
    (fits : put_fits b (entry.ver + 1) value ≡ true) (lands : p.flight ≡ None) where
  abbrev owns : ClientPart
  owns = owning setup works c p b value item its_call its_item stamp req entry

  module _ (full : nat_le 24 (length (waiting_then owns b value)) ≡ true) (more : log.has_next p.end.seq ≡ true) where
    abbrev packet : Packet
    packet = record {
      from = Manager j;
      to = Client c;
      clock = 0;
      body = body.Grant (record { block = b; stamp = stamp; inc = 1; req = req; mode = Own; entry = entry });
    }

    itself : held_of owns.blocks b ≡ held_own (held_of p.blocks b) stamp entry.ver
    itself = held_of-put_itself b (held_own (held_of p.blocks b) stamp entry.ver) p.blocks

    packet_is : serving_take (serving_at setup works c p) packet ≡ record { state = serving_at setup works c owns; outs = [] }
    unfolding serving_take on_grant
    packet_is = rw (known, long, grant_hands setup works c p b value item its_call its_item stamp req entry accepted) refl

    runs_is : run (serving_at setup works c owns) ≡ record {
      state = serving_at setup works c (record (filled_part setup works c owns b value) { item = None });
      outs = does setup works c owns b value item;
    }
    runs_is =
        runs_answered (serving_at setup works c owns) (Put b value) refl (serving_at setup works c (filled_part setup works c owns b value))
        (fills setup works c owns b value ++ []) (block.Put ((held_of owns.blocks b).ver + 1))
        (put_fills setup works c owns b value (ap may_write itself ∙ may) (ap (λ (x : Held). put_fits b (x.ver + 1) value) itself ∙ fits) lands full more) refl

    pub fills_granted : client_step (client_at setup works c p) (Deliver packet) ≡ record {
      node = client_at setup works c (record (filled_part setup works c owns b value) { item = None });
      packets = packets_of (Client c) (does setup works c owns b value item);
      acts = acts_of (Client c) (does setup works c owns b value item);
    }
    unfolding on_deliver
    fills_granted = rw (room setup works c p h, there, of_log, packet_is, runs_is) refl

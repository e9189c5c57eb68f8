-- A client whose get waits is granted a copy of a block that lies in a log: it asks each member of the segment's group for its fragment, and the get goes on waiting.
use Rattle.std.proofs.Common.{◌≡◌, ℕ, ◌+◌, not, nat_lt, true, false, List, [], ◌∷◌, ◌++◌, filter, map, Some, None, refl, ap}
use Rattle.client_call.specs.Calls.{call_new}
use Rattle.client_call.specs.declared.call.Plan.TheVariants.{One}
use Rattle.client_call.specs.Reads.{target_of}
use Rattle.client_node.specs.Phases.{client_step, on_deliver}
use Rattle.client_running.specs.Blocks.{blocks_get, blocks_make}
use Rattle.client_running.specs.Running.{run}
use Rattle.client_serving.specs.declared.serving.Serving.{Serving}
use Rattle.client_serving.specs.Follow.{serving_follow, follow_one, hand}
use Rattle.client_serving.specs.Packets.{on_grant, serving_take}
use Rattle.client_serving.specs.Reads.{begin_reading, serving_read}
use Rattle.file_plan.specs.declared.block_call.BlockCall.TheVariants.{Get}
use Rattle.group_map.specs.declared.group.Group.{Group}
use Rattle.group_map.specs.Groups.{group_of}
use Rattle.log_owner.specs.Sending.{fetch}
use Rattle.node_base.specs.declared.effects.Effect.{Effect}
use Rattle.node_base.specs.Effects.{acts_of, packets_of}
use Rattle.node_base.specs.Known.{knows_entry}
use Rattle.node_base.specs.Maps.{maps_start}
use Rattle.node_base.specs.Nodes.{has_node, peers_of}
use Rattle.node_base.specs.Shape.{is_entry}
use Rattle.segment_reading.specs.Reading.{ReadingState, reading_start, servers_of, reading_unanswered}
use Rattle.token_client.proofs.Tables.{held_of-put_itself}
use Rattle.token_client.specs.declared.held.Held.{Held}
use Rattle.token_client.specs.declared.input.In.TheVariants.{Granted, Need}
use Rattle.token_client.specs.declared.output.Out.TheVariants.{Read}
use Rattle.token_client.specs.Held.{fetch_from}
use Rattle.token_client.specs.State.{held_of, put_held}
use Rattle.token_client.specs.Transition.{accepts, on_granted, on_need}
use Rattle.version_model.specs.declared.work.Work.{Work}
use Rattle.wire_msg.specs.declared.body.Body.TheVariants as body
use Rattle.wire_msg.specs.declared.packet.Do.TheVariants.{Deliver}
use Rattle.wire_msg.specs.declared.packet.Packet.{Packet}
use Rattle.xfs_base.specs.declared.block.BlockId.{BlockId}
use Rattle.xfs_base.specs.declared.entry.Entry.{Entry}
use Rattle.xfs_base.specs.declared.entry.Place.{Place}
use Rattle.xfs_base.specs.declared.node.NodeId.{NodeId}
use Rattle.xfs_base.specs.declared.node.NodeId.TheVariants.{Client, Manager}
use Rattle.xfs_base.specs.declared.setup.Setup.{Setup}
use Rattle.xfs_base.specs.declared.token.Mode.TheVariants.{Copy}
use Rattle.xfs_base.specs.declared.token.Stamp.{Stamp}
use Rattle.xfs_base.specs.Limits.{u32_end}
use Rattle.quiet_nodes.specs.Scene.{ClientPart, client_at, its_groups, serving_at, tokens_at}
use Rattle.quiet_nodes.proofs.Begins.{HasRoom, room}
use Rattle.quiet_reads.proofs.ReadingRuns.{reading_call, reading_waits}

-- before any answer each server is asked
all_asked : (servers : List ℕ) → filter (λ server. not false) servers ≡ servers
all_asked [] = refl
all_asked (v ∷ servers) = ap (λ vs. v ∷ vs) (all_asked servers)

module _ (setup : Setup) (works : NodeId → List Work) (c : ℕ) (p : ClientPart) (b : BlockId) (item : ℕ) (its_call : p.call ≡ Some (call_new One (Get b)))
    (its_item : p.item ≡ Some item) (stamp : Stamp) (req ver hop : ℕ) (place : Place) (group : Group) where
  abbrev its_held : Held
  its_held = held_of p.blocks b

  -- the block is being fetched
  abbrev pub fetching : Held
  fetching = fetch_from its_held stamp ver place

  abbrev pub entry : Entry
  entry = record { ver = ver; hop = hop; place = Some place }

  -- the first round of reading it
  abbrev pub first_round : ReadingState
  first_round = reading_start (target_of b place) group (p.asked + 1)

  abbrev pub fetching_part : ClientPart
  fetching_part = record p {
    asked = p.asked + 1;
    blocks = put_held p.blocks b fetching;
    call = Some (reading_call (Get b) (Some first_round));
    item = Some item;
  }

  abbrev pub fetches : List Effect
  fetches = map (fetch place.seg.name (p.asked + 1)) (servers_of group)

  abbrev granted_part : ClientPart
  granted_part = record p { blocks = put_held p.blocks b fetching; call = Some (call_new One (Get b)); item = Some item }

  itself : held_of (put_held p.blocks b fetching) b ≡ fetching
  itself = held_of-put_itself b fetching p.blocks

  module _ (accepted : accepts (tokens_at setup works p) b stamp 1 req Copy ≡ true) (more : nat_lt p.asked u32_end ≡ true) (known : group_of (its_groups setup works) place.seg.group ≡ Some group) where
    fetches_is : on_granted (tokens_at setup works p) b stamp 1 req Copy entry ≡ record { state = tokens_at setup works granted_part; outs = Read b place ∷ [] }
    unfolding on_granted
    fetches_is = rw accepted refl

    asks_all : map (fetch place.seg.name (p.asked + 1)) (reading_unanswered first_round) ≡ fetches
    asks_all = ap (map (fetch place.seg.name (p.asked + 1))) (all_asked (servers_of group))

    reads_is : serving_read (serving_at setup works c granted_part) b place ≡ record { state = serving_at setup works c fetching_part; outs = fetches }
    unfolding serving_read begin_reading
    reads_is = rw (known, more) (ap (λ outs. record { state = serving_at setup works c fetching_part; outs = outs }) asks_all)

    read_is : follow_one (serving_at setup works c granted_part) (Read b place) ≡ record { state = serving_at setup works c fetching_part; outs = fetches }
    unfolding follow_one
    read_is = reads_is

    grant_hands : hand (serving_at setup works c p) (Granted b stamp 1 req Copy entry) ≡ record { state = serving_at setup works c fetching_part; outs = fetches ++ [] }
    unfolding hand serving_follow
    grant_hands = rw (its_call, its_item, fetches_is, read_is) refl

    -- ---- the get goes on waiting

    abbrev before : Serving
    before = serving_at setup works c (record fetching_part { call = None })

    none_needed : hand before (Need b Copy) ≡ record { state = before; outs = [] }
    unfolding hand serving_follow on_need
    none_needed = rw itself refl

    get_waits : blocks_make before (Get b) ≡ record { done = record { state = before; outs = [] }; answer = None }
    unfolding blocks_make blocks_get
    get_waits = rw (itself, none_needed) refl

    runs_is : run (serving_at setup works c fetching_part) ≡ record { state = serving_at setup works c fetching_part; outs = [] }
    runs_is = reading_waits (serving_at setup works c fetching_part) (Get b) (Some first_round) refl before [] get_waits

    module _ (j clock : ℕ) (h : HasRoom setup works c p) (there : has_node (peers_of setup) (Manager j) ≡ true) (of_log : is_entry (Some place) ≡ true)
        (group_known : knows_entry (maps_start (its_groups setup works)) (Some place) ≡ true) where
      abbrev pub place_packet : Packet
      place_packet = record {
        from = Manager j;
        to = Client c;
        clock = clock;
        body = body.Grant (record { block = b; stamp = stamp; inc = 1; req = req; mode = Copy; entry = entry });
      }

      packet_is : serving_take (serving_at setup works c p) place_packet ≡ record { state = serving_at setup works c fetching_part; outs = fetches ++ [] }
      unfolding serving_take on_grant
      packet_is = rw (group_known, grant_hands) refl

      pub place_comes : client_step (client_at setup works c p) (Deliver place_packet) ≡ record {
        node = client_at setup works c fetching_part;
        packets = packets_of (Client c) ((fetches ++ []) ++ []);
        acts = acts_of (Client c) ((fetches ++ []) ++ []);
      }
      unfolding on_deliver
      place_comes = rw (room setup works c p h, there, of_log, packet_is, runs_is) refl

-- A client wants a block that another holds, which has not settled it: the block is recalled, the owner's segment goes its way, and the owner gives the block up. The
-- want is answered then, as if the owner had done so before.
use Rattle.std.proofs.Common.{◌-◌, ◌≡◌, ℕ, suc, ◌+◌, ◌*◌, ◌<◌, ◌≤◌, ◌&&◌, not, Bool, true, false, cond, nat_lt, nat_le, List, [], ◌∷◌, ◌++◌, map, length, replicate, slice_index, refl, sym, ap, subst, ◌∙◌, append-nil, arith}
use Rattle.std.proofs.lemmas.List.{get_or-replicate, get_or-set_same}
use Rattle.std.specs.Prelude.{flat_map}
use Rattle.std.specs.List.{AllByRecursion}
use Rattle.client_log.specs.Transition as log
use Rattle.client_log.specs.Transition.{end_of}
use Rattle.delta_feed.specs.Transition.{rows_after, slot_rows}
use Rattle.group_map.specs.declared.group.Member.{Member}
use Rattle.log_flight.specs.Flights.{none_noted, FlightState}
use Rattle.log_owner.specs.Sending.{name_of}
use Rattle.manager_node.specs.Events.{manager_step}
use Rattle.manager_slots.specs.Tokens.{tokens_say}
use Rattle.node_base.specs.declared.effects.Effect.{Effect}
use Rattle.node_base.specs.Effects.{acts_of, packets_of}
use Rattle.node_base.specs.Nodes.{has_node, peers_of}
use Rattle.node_base.specs.Shape.{is_name}
use Rattle.quiet_flow.specs.Flow.{unclocked}
use Rattle.slot_beliefs.specs.declared.job.Wanted.{Wanted}
use Rattle.slot_beliefs.specs.Recalls.{applied_of}
use Rattle.token_client.specs.declared.held.Held.{Held}
use Rattle.token_client.specs.Held.{is_dirty}
use Rattle.token_manager.specs.declared.input.In.TheVariants as input
use Rattle.token_manager.specs.declared.output.Out.{Out}
use Rattle.token_manager.specs.SlotState.{SlotState}
use Rattle.token_manager.specs.Transition.{slot_finish, transition, with_deltas, passers}
use Rattle.version_model.specs.declared.act.Act.{Act}
use Rattle.version_model.specs.declared.act.Act.TheVariants as acts
use Rattle.version_model.specs.declared.work.Work.{Work}
use Rattle.wire_msg.specs.declared.body.Body.{Body}
use Rattle.wire_msg.specs.declared.body.Body.TheVariants as body
use Rattle.wire_msg.specs.declared.packet.Do.TheVariants.{Deliver}
use Rattle.wire_msg.specs.declared.packet.Packet.{Packet}
use Rattle.wire_msg.specs.NodeStep.{NodeStep}
use Rattle.xfs_base.specs.declared.block.BlockId.{BlockId}
use Rattle.xfs_base.specs.declared.entry.Entry.{Entry}
use Rattle.xfs_base.specs.declared.node.NodeId.{NodeId}
use Rattle.xfs_base.specs.declared.node.NodeId.TheVariants.{Client, Manager}
use Rattle.xfs_base.specs.declared.setup.Setup.{Setup}
use Rattle.xfs_base.specs.declared.token.Mode.{Mode}
use Rattle.xfs_base.specs.Limits.{all_slots}
use Rattle.quiet_law.proofs.AsIf.{Reaches, reaches_first, reaches_layer}
use Rattle.quiet_law.proofs.Changing.{each_of}
use Rattle.quiet_law.proofs.Rows.{newest_alone}
use Rattle.quiet_law.proofs.Writing as writing
use Rattle.quiet_law.proofs.Writing.{of_log, striped_so}
use Rattle.quiet_nodes.specs.Layers.{IsFirst, ack_by, deltas_to, storeds_by, stores_to, with_pieces}
use Rattle.quiet_nodes.specs.Moves.{Moves}
use Rattle.quiet_nodes.specs.Scene.{ClientPart, Scene, manager_at, put_number, with_client, with_slot, manager_of_slot}
use Rattle.quiet_nodes.proofs.AckLayer.{acks_move}
use Rattle.quiet_nodes.proofs.Begins.{HasRoom}
use Rattle.quiet_nodes.proofs.DeltasLayer as slots
use Rattle.quiet_nodes.proofs.DeltasLayer.{AreTaken, TakesNext, all_told_at, deltas_move, one_slot, told_again, turns_8}
use Rattle.quiet_nodes.proofs.Managing.{want_comes}
use Rattle.quiet_nodes.proofs.Moving.{moves_none}
use Rattle.quiet_nodes.proofs.Notes.{none_are}
use Rattle.quiet_nodes.proofs.Noting.{stored_comes_idle}
use Rattle.quiet_nodes.proofs.Rooms.{HasTurns, HaveTurns, manager_room, turns_put}
use Rattle.quiet_nodes.proofs.Sends.{acts_none, packets_are, unclocked_are}
use Rattle.quiet_nodes.proofs.StoreLayer.{stores_move}
use Rattle.quiet_nodes.proofs.StoredLayer.{IsLast, IsNoted, storeds_move}
use Rattle.quiet_nodes.proofs.Tests.{le_test, lt_test, not_lt_test, other_test, same_test}
use Rattle.quiet_nodes.proofs.Turns.{client_takes, slot_takes}
use Rattle.quiet_nodes.proofs.Wanting.{want_body}
use Rattle.quiet_gives.proofs.GivingUp.{gave_told}
use Rattle.quiet_gives.proofs.OwnerFacts as own
use Rattle.quiet_gives.proofs.OwnerFacts.{IsOwners}
use Rattle.quiet_gives.proofs.Recalling as recalling
use Rattle.quiet_gives.proofs.Recalling.{recall_comes}
use Rattle.quiet_gives.proofs.Gave.{gave_comes}
use Rattle.quiet_gives.proofs.Recalls.{gave_ends, given_slot, none_ready, want_recalls}
use Rattle.quiet_gives.proofs.SettlingGives.{last_stored_gives}
use Rattle.manager_node.specs.declared.manager.Manager.{Manager as ManagerNode}
use Rattle.xfs_base.specs.Blocks.{slot_of}
use Rattle.xfs_base.specs.declared.segment.SegName.{SegName}
use Rattle.xfs_base.specs.declared.token.Stamp.{Stamp}
use Rattle.xfs_base.specs.Modes.{is_own}
use Rattle.quiet_law.proofs.Synced.{none_waits}
use Rattle.quiet_gives.proofs.OwnerGives as gives
use Rattle.quiet_gives.proofs.OwnerLayers.{ack_again, answers_quietly, client_first, length_stores, length_storeds, moves_both}

module _ (setup : Setup) (works : NodeId → List Work) (k : ℕ) (s : Scene) (c o : ℕ) (b : BlockId) (mode : Mode) (g : IsOwners setup works k s c o b mode)
    (asked : ClientPart) where
  abbrev pub i : ℕ
  i = slot_of b.ino.0

  abbrev pub j : ℕ
  j = manager_of_slot setup works i

  abbrev pub z : SlotState
  z = s.slot i

  abbrev pub p : ClientPart
  p = s.client o

  abbrev pub req : ℕ
  req = (s.client c).req + 1

  abbrev pub end : ℕ
  end = (s.client c).end.seq

  abbrev pub w : Wanted
  w = own.want setup works k s c o b mode

  abbrev pub keep : Bool
  keep = not (is_own mode)

  abbrev pub f : FlightState
  f = own.f setup works k s c o b mode g

  abbrev pub ms : List Member
  ms = f.group.members

  abbrev name : SegName
  name = f.segment.name

  abbrev pub seq : ℕ
  seq = p.end.seq + 1

  abbrev pub its_rows : List (BlockId × Entry)
  its_rows = own.rows setup works k s c o b mode g

  abbrev pub rows : ℕ → List (BlockId × Entry)
  rows x = slot_rows x its_rows

  abbrev flies : List Bool → ClientPart
  flies = own.flies setup works k s c o b mode g

  abbrev st : Stamp
  st = own.st setup works k s c o b mode

  pub within : i < 8
  within = own.within setup works k s c o b mode g

  pub there : has_node (peers_of setup) (Manager j) ≡ true
  there = own.there setup works k s c o b mode g

  pub has_owner : has_node (peers_of setup) (Client o) ≡ true
  has_owner = ap (λ t. t && nat_le o setup.clients) (le_test 1 o g.owner.0) ∙ le_test o setup.clients g.owner.1

  pub few_clients : o ≤ 8
  few_clients = (let most = g.owner.1 in let limit = g.ok.clients.1 in omega arith)

  pub managers : (x : ℕ) → x < 8 → has_node (peers_of setup) (Manager (manager_of_slot setup works x)) ≡ true
  managers = writing.managers setup works (suc k) o s p (own.can setup works k s c o b mode g) g.ok (own.few_more setup works k s c o b mode g) g.owner.0 g.owner.1 (own.fed setup works k s c o b mode g) (own.linked setup works k s c o b mode g) (own.acked setup works k s c o b mode g) (own.ready setup works k s c o b mode g)

  -- ---- the scenes on the way

  -- the client has asked, and the slot has recalled
  abbrev s1 : Scene
  s1 = with_client s c asked

  abbrev pub zj : SlotState
  zj = own.waiting setup works k s c o b mode

  abbrev s2 : Scene
  s2 = with_slot s1 i zj

  -- the owner's segment is in flight, and its members have it
  abbrev s3 : Scene
  s3 = with_client s2 o (flies none_noted)

  abbrev base : Scene
  base = record s2 { held = with_pieces setup works s.held f ms 0 }

  abbrev s4 : Scene
  s4 = with_client base o (flies none_noted)

  -- the owner then: all is settled, and the block given up
  abbrev pub qs : ClientPart
  qs = gives.qs setup works k s c o b mode g

  abbrev pub fed_part : ClientPart
  fed_part = gives.fed_part setup works k s c o b mode g

  abbrev told : List Effect
  told = gives.told setup works k s c o b mode g

  abbrev s5 : Scene
  s5 = with_client base o qs

  -- ---- Want, Recall

  abbrev pub want_is : Body
  want_is = want_body setup works c (s.client c) b mode

  abbrev pub want_packet : Packet
  want_packet = record { from = Client c; to = Manager j; clock = 0; body = want_is }

  abbrev recall_is : Body
  recall_is = body.Recall (record { block = b; stamp = st; keep = keep })

  abbrev recall_packet : Packet
  recall_packet = record { from = Manager j; to = Client o; clock = 0; body = recall_is }

  pub turns : HaveTurns s.slot
  turns x less = (own.ready setup works k s c o b mode g x less).turns

  pub its_turns : HasTurns zj
  its_turns = record {
    epoch = (turns i within).epoch;
    turn = le_test (z.turn + 1) _ (let low = (own.calm setup works k s c o b mode g).turn_low in let few = g.few in omega arith);
  }

  pub turns_then : HaveTurns s2.slot
  turns_then = turns_put s.slot i zj turns its_turns

  recalls_so : manager_step (manager_at setup works j s.slot) (Deliver want_packet)
      ≡ record { node = manager_at setup works j s2.slot; packets = recall_packet ∷ []; acts = [] }
  unfolding tokens_say
  recalls_so =
      want_comes setup works j c 0 s.slot (record { block = b; inc = 1; req = req; again = 0; mode = mode; end = end }) within
      (same_test j) (manager_room setup works j s.slot turns) (own.has_asker setup works k s c o b mode g) zj _
      (want_recalls c 1 req end b mode z o (own.taken setup works k s c o b mode g) g.listed (own.turns_left setup works k s c o b mode g) (own.calm setup works k s c o b mode g).jobs)

  want_moves : Moves setup works s1 (want_packet ∷ []) (recall_packet ∷ []) [] s2
  want_moves = slot_takes setup works s1 i zj s2 (Client c) want_is (recall_packet ∷ []) [] [] [] [] there recalls_so (moves_none setup works s2)

  owner_there : s2.client o ≡ p
  owner_there = ap (λ t. cond t asked p) (other_test o c g.differ)

  abbrev flush : List Effect
  flush = recalling.flushes setup works o p b st keep

  abbrev stores_are : List Packet
  stores_are = stores_to o f ms 0

  packets_so : map unclocked (packets_of (Client o) (flush ++ [])) ≡ stores_are
  unfolding log.sending_send
  packets_so =
      ap (λ outs. map unclocked (packets_of (Client o) outs)) (append-nil flush)
      ∙ ap (map unclocked) (packets_are f refl o ms 0)
      ∙ unclocked_are f refl o ms 0

  acts_so : acts_of (Client o) (flush ++ []) ≡ []
  unfolding log.sending_send
  acts_so = ap (acts_of (Client o)) (append-nil flush) ∙ acts_none f refl o ms 0

  recall_moves : Moves setup works s2 (recall_packet ∷ []) stores_are [] s3
  recall_moves =
      subst (λ outs. Moves setup works s2 (recall_packet ∷ []) outs [] s3) (append-nil (map unclocked (packets_of (Client o) (flush ++ []))) ∙ packets_so)
      (subst (λ done. Moves setup works s2 (recall_packet ∷ []) (map unclocked (packets_of (Client o) (flush ++ [])) ++ []) done s3)
      (append-nil (acts_of (Client o) (flush ++ [])) ∙ acts_so)
      (client_first setup works s2 s3 o p (flies none_noted) (Manager j) recall_is (packets_of (Client o) (flush ++ [])) [] [] (acts_of (Client o) (flush ++ [])) []
      owner_there has_owner (recall_comes setup works o p b st keep (own.recalled_so setup works k s c o b mode g) j (own.room setup works k s c o b mode g) there) (moves_none setup works s3)))

  -- ---- Store, Stored

  stores_moved : Moves setup works s3 stores_are (storeds_by o name ms 0) [] s4
  stores_moved = stores_move setup works o f has_owner (writing.taken setup works (suc k) o s p (own.can setup works k s c o b mode g) g.ok (own.few_more setup works k s c o b mode g) g.owner.0 g.owner.1 (own.fed setup works k s c o b mode g) (own.linked setup works k s c o b mode g) (own.acked setup works k s c o b mode g) (own.ready setup works k s c o b mode g)) ms 0 s3 (striped_so setup works (suc k) o s p (own.can setup works k s c o b mode g) g.ok (own.few_more setup works k s c o b mode g) g.owner.0 g.owner.1 (own.fed setup works k s c o b mode g) (own.linked setup works k s c o b mode g) (own.acked setup works k s c o b mode g) (own.ready setup works k s c o b mode g)).each

  named : is_name name ≡ true
  named = of_log setup works (suc k) o s p (own.can setup works k s c o b mode g) g.ok (own.few_more setup works k s c o b mode g) g.owner.0 g.owner.1 (own.fed setup works k s c o b mode g) (own.linked setup works k s c o b mode g) (own.acked setup works k s c o b mode g) (own.ready setup works k s c o b mode g)

  noted_so : IsNoted setup works o base has_owner name (length ms) (striped_so setup works (suc k) o s p (own.can setup works k s c o b mode g) g.ok (own.few_more setup works k s c o b mode g) g.owner.0 g.owner.1 (own.fed setup works k s c o b mode g) (own.linked setup works k s c o b mode g) (own.acked setup works k s c o b mode g) (own.ready setup works k s c o b mode g)).few flies qs (packets_of (Client o) told) (acts_of (Client o) told)
  noted_so x place noted first are less =
      stored_comes_idle setup works o x.server 0 place 1 name (flies noted) (record f { noted = noted }) refl (writing.its setup works (suc k) o s p (own.can setup works k s c o b mode g) g.ok (own.few_more setup works k s c o b mode g) g.owner.0 g.owner.1 (own.fed setup works k s c o b mode g) (own.linked setup works k s c o b mode g) (own.acked setup works k s c o b mode g) (own.ready setup works k s c o b mode g) place noted are (omega (arith, less)))
      (writing.waits setup works (suc k) o s p (own.can setup works k s c o b mode g) g.ok (own.few_more setup works k s c o b mode g) g.owner.0 g.owner.1 (own.fed setup works k s c o b mode g) (own.linked setup works k s c o b mode g) (own.acked setup works k s c o b mode g) (own.ready setup works k s c o b mode g) place noted are less) (own.flies_room setup works k s c o b mode g noted) first.1 named refl

  last_so : IsLast setup works o base has_owner name (length ms) (striped_so setup works (suc k) o s p (own.can setup works k s c o b mode g) g.ok (own.few_more setup works k s c o b mode g) g.owner.0 g.owner.1 (own.fed setup works k s c o b mode g) (own.linked setup works k s c o b mode g) (own.acked setup works k s c o b mode g) (own.ready setup works k s c o b mode g)).few flies qs (packets_of (Client o) told) (acts_of (Client o) told)
  last_so x place noted first are all =
      last_stored_gives setup works o x.server place 1 name (flies noted) (record f { noted = noted }) b st keep refl (writing.its setup works (suc k) o s p (own.can setup works k s c o b mode g) g.ok (own.few_more setup works k s c o b mode g) g.owner.0 g.owner.1 (own.fed setup works k s c o b mode g) (own.linked setup works k s c o b mode g) (own.acked setup works k s c o b mode g) (own.ready setup works k s c o b mode g) place noted are (omega (arith, all)))
      (writing.lands setup works (suc k) o s p (own.can setup works k s c o b mode g) g.ok (own.few_more setup works k s c o b mode g) g.owner.0 g.owner.1 (own.fed setup works k s c o b mode g) (own.linked setup works k s c o b mode g) (own.acked setup works k s c o b mode g) (own.ready setup works k s c o b mode g) place noted are all) (none_waits setup works (suc k) o p (own.can setup works k s c o b mode g)) (lt_test p.fed seq (let is = own.fed setup works k s c o b mode g in omega arith)) (gives.can_give setup works k s c o b mode g)
      (own.as_before setup works k s c o b mode g is_dirty refl b ∙ g.dirty) (ap (λ (y : Held). y.giving) (own.giving_is setup works k s c o b mode g)) (gives.only setup works k s c o b mode g) (own.flies_room setup works k s c o b mode g noted) first.1 named

  abbrev deltas : List Packet
  deltas = map (λ x. deltas_to setup works o seq x (rows x)) all_slots

  abbrev gave_is : Body
  gave_is = body.Gave (record { block = b; stamp = st; end = seq })

  abbrev gave_packet : Packet
  gave_packet = record { from = Client o; to = Manager j; clock = 0; body = gave_is }

  abbrev again : Packet
  again = deltas_to setup works o seq i (rows i)

  abbrev pub filed : Act
  filed = acts.Filed (name_of (record { 0 = o }) (end_of f.segment))

  abbrev push : ℕ → List (BlockId × Entry) → Packet
  push first rs = record { from = Client o; to = Manager j; clock = 0; body = body.Deltas (record { slot = i; first = first; upto = seq; rows = rs }) }

  push_is : push (slice_index p.acked i + 1) (rows_after i (slice_index p.acked i) fed_part.filed) ≡ again
  push_is =
      ap (λ a. push (a + 1) (rows_after i a fed_part.filed)) (own.acked setup works k s c o b mode g i within)
      ∙ ap (push seq) (newest_alone i p.end.seq seq p.filed its_rows (own.idle setup works k s c o b mode g).filed (lt_test p.end.seq seq (omega arith)))

  outs_are : map unclocked (packets_of (Client o) told) ++ [] ≡ deltas ++ again ∷ gave_packet ∷ []
  outs_are =
      append-nil (map unclocked (packets_of (Client o) told))
      ∙ writing.deltas_are setup works (suc k) o s p (own.can setup works k s c o b mode g) g.ok (own.few_more setup works k s c o b mode g) g.owner.0 g.owner.1 (own.fed setup works k s c o b mode g) (own.linked setup works k s c o b mode g) (own.acked setup works k s c o b mode g) (own.ready setup works k s c o b mode g) (gave_told setup works o fed_part b st keep)
      ∙ ap (λ x. deltas ++ x ∷ gave_packet ∷ []) push_is

  done_is : acts_of (Client o) told ++ [] ≡ filed ∷ []
  done_is = append-nil (acts_of (Client o) told) ∙ writing.acts_are setup works (suc k) o s p (own.can setup works k s c o b mode g) g.ok (own.few_more setup works k s c o b mode g) g.owner.0 g.owner.1 (own.fed setup works k s c o b mode g) (own.linked setup works k s c o b mode g) (own.acked setup works k s c o b mode g) (own.ready setup works k s c o b mode g) (gave_told setup works o fed_part b st keep)

  stored_layer : (xs : List Member) → xs ≡ ms
      → Moves setup works s4 (storeds_by o name xs 0) (deltas ++ again ∷ gave_packet ∷ []) (filed ∷ []) s5
  stored_layer [] is = absurd (let some = (striped_so setup works (suc k) o s p (own.can setup works k s c o b mode g) g.ok (own.few_more setup works k s c o b mode g) g.owner.0 g.owner.1 (own.fed setup works k s c o b mode g) (own.linked setup works k s c o b mode g) (own.acked setup works k s c o b mode g) (own.ready setup works k s c o b mode g)).some in let none = ap length is in omega arith)
  stored_layer (x ∷ xs) is =
      subst (λ outs. Moves setup works s4 (storeds_by o name (x ∷ xs) 0) outs (filed ∷ []) s5) outs_are
      (subst (λ done. Moves setup works s4 (storeds_by o name (x ∷ xs) 0) (map unclocked (packets_of (Client o) told) ++ []) done s5) done_is
      (storeds_move setup works o base has_owner name (length ms) (striped_so setup works (suc k) o s p (own.can setup works k s c o b mode g) g.ok (own.few_more setup works k s c o b mode g) g.owner.0 g.owner.1 (own.fed setup works k s c o b mode g) (own.linked setup works k s c o b mode g) (own.acked setup works k s c o b mode g) (own.ready setup works k s c o b mode g)).few flies qs (packets_of (Client o) told) (acts_of (Client o) told) noted_so last_so
      xs x 0 none_noted (subst (AllByRecursion (IsFirst setup)) (sym is) (striped_so setup works (suc k) o s p (own.can setup works k s c o b mode g) g.ok (own.few_more setup works k s c o b mode g) g.owner.0 g.owner.1 (own.fed setup works k s c o b mode g) (own.linked setup works k s c o b mode g) (own.acked setup works k s c o b mode g) (own.ready setup works k s c o b mode g)).each) none_are
      (let long : length (x ∷ xs) ≡ length ms = ap length is in omega arith)))

  -- ---- Deltas, and once more, and Gave

  pub takes : (x : ℕ) → x < 8 → TakesNext o seq (base.slot x) (rows x)
  takes =
      each_of s.slot base.slot i zj (λ x differs. ap (λ t. cond t zj (s.slot x)) (other_test x i differs)) (ap (λ t. cond t zj z) (same_test i))
      (λ x y. x < 8 → TakesNext o seq y (rows x))
      (λ less. (let next = writing.takes setup works (suc k) o s p (own.can setup works k s c o b mode g) g.ok (own.few_more setup works k s c o b mode g) g.owner.0 g.owner.1 (own.fed setup works k s c o b mode g) (own.linked setup works k s c o b mode g) (own.acked setup works k s c o b mode g) (own.ready setup works k s c o b mode g) i less in
      record { turns = its_turns; waits = none_ready c 1 req end b mode z o; applied = next.applied; rises = next.rises }))
      (λ x differs less. (let next = writing.takes setup works (suc k) o s p (own.can setup works k s c o b mode g) g.ok (own.few_more setup works k s c o b mode g) g.owner.0 g.owner.1 (own.fed setup works k s c o b mode g) (own.linked setup works k s c o b mode g) (own.acked setup works k s c o b mode g) (own.ready setup works k s c o b mode g) x less in
      record { turns = next.turns; waits = next.waits; applied = next.applied; rises = next.rises }))

  pub takeable : (x : ℕ) → x < 8 → AreTaken setup works (rows x)
  takeable = writing.takeable setup works (suc k) o s p (own.can setup works k s c o b mode g) g.ok (own.few_more setup works k s c o b mode g) g.owner.0 g.owner.1 (own.fed setup works k s c o b mode g) (own.linked setup works k s c o b mode g) (own.acked setup works k s c o b mode g) (own.ready setup works k s c o b mode g)

  abbrev pub told_base : Scene
  told_base = slots.all_told setup works o seq g.owner.0 few_clients has_owner managers base rows turns_then takes takeable

  abbrev s6 : Scene
  s6 = with_client told_base o qs

  eight : Moves setup works s5 deltas (map (ack_by setup works o seq) all_slots) [] s6
  eight = deltas_move setup works o seq g.owner.0 few_clients has_owner managers s5 rows turns_then takes takeable

  abbrev pub z1 : SlotState
  z1 = with_deltas zj (record { 0 = o }) seq (rows i)

  base_at : base.slot i ≡ zj
  base_at = ap (λ t. cond t zj z) (same_test i)

  pub told_at : (x : ℕ) → x < 8 → s6.slot x ≡ with_deltas (base.slot x) (record { 0 = o }) seq (rows x)
  told_at = all_told_at setup works o seq g.owner.0 few_clients has_owner managers base rows turns_then takes takeable

  s6_at : s6.slot i ≡ z1
  s6_at = told_at i within ∙ ap (λ y. with_deltas y (record { 0 = o }) seq (rows i)) base_at

  turns_6 : HaveTurns s6.slot
  turns_6 = turns_8 setup works o seq g.owner.0 few_clients has_owner managers base rows turns_then takes takeable

  applied_1 : applied_of z1.applied o ≡ seq
  applied_1 = get_or-set_same z.applied (o - 1) seq 0 (let long = (own.calm setup works k s c o b mode g).applied in let limit = few_clients in omega arith)

  abbrev s7 : Scene
  s7 = with_slot s6 i z1

  s7_at : s7.slot i ≡ z1
  s7_at = ap (λ t. cond t z1 (s6.slot i)) (same_test i)

  turns_7 : HaveTurns s7.slot
  turns_7 = turns_put s6.slot i z1 turns_6 (record { epoch = its_turns.epoch; turn = its_turns.turn })

  -- the slot once the block is given up, and once the want is answered
  abbrev pub zg : SlotState
  zg = given_slot z1 w o seq b st keep

  abbrev pub zf : SlotState
  zf = (slot_finish zg w).state

  abbrev pub says : List Out
  says = (slot_finish zg w).outs

  abbrev pub sent : List Packet
  sent = packets_of (Manager j) (flat_map (tokens_say i z.epoch) says)

  -- what the want is answered with
  abbrev pub rest : List Packet
  rest = map unclocked sent ++ []

  ends_so : transition (s7.slot i) (input.Gave o b st seq) ≡ slot_finish zg w
  ends_so =
      ap (λ y. transition y (input.Gave o b st seq)) s7_at
      ∙ gave_ends z1 w o seq b st keep refl (le_test seq (applied_of z1.applied o) (let is = applied_1 in omega arith)) (own.more_turns setup works k s c o b mode g)

  abbrev pub as_gave : (ℕ → SlotState) → ℕ → NodeStep ManagerNode
  as_gave now epoch = record {
    node = manager_at setup works j now;
    packets = packets_of (Manager j) (flat_map (tokens_say i epoch) says);
    acts = acts_of (Manager j) (flat_map (tokens_say i epoch) says);
  }

  abbrev pub with_acts : (ℕ → SlotState) → List Act → NodeStep ManagerNode
  with_acts now done = record { node = manager_at setup works j now; packets = sent; acts = done }

  gave_so : manager_step (manager_at setup works j s7.slot) (Deliver gave_packet) ≡ with_acts (put_number s7.slot i zf) []
  gave_so =
      gave_comes setup works j o 0 s7.slot (record { block = b; stamp = st; end = seq }) within (same_test j) (manager_room setup works j s7.slot turns_7) has_owner zf says
      ends_so
      ∙ ap (as_gave (put_number s7.slot i zf)) (ap (λ (y : SlotState). y.epoch) s7_at)
      ∙ ap (with_acts (put_number s7.slot i zf)) (answers_quietly j i z.epoch zg w (passers zg w))

  abbrev given_base : Scene
  given_base = with_slot (with_slot told_base i z1) i zf

  abbrev s8 : Scene
  s8 = with_client given_base o qs

  gave_moves : Moves setup works s7 (gave_packet ∷ []) rest [] s8
  gave_moves = slot_takes setup works s7 i zf s8 (Client o) gave_is sent [] [] [] [] there gave_so (moves_none setup works s8)

  two : Moves setup works s6 (again ∷ gave_packet ∷ []) (ack_by setup works o seq i ∷ rest) [] s8
  two =
      one_slot setup works o seq g.owner.0 few_clients has_owner managers i (rows i) within s6 s8 z1 (gave_packet ∷ []) rest [] turns_6 (turns_6 i within).epoch
      (takeable i within)
      (ap (λ y. transition y (input.Deltas (record { 0 = o }) seq seq (rows i))) s6_at
      ∙ told_again setup works o seq g.owner.0 few_clients has_owner managers i (rows i) within z1 applied_1)
      gave_moves

  abbrev acks : List Packet
  acks = map (ack_by setup works o seq) all_slots

  ten : Moves setup works s5 (deltas ++ again ∷ gave_packet ∷ []) (acks ++ ack_by setup works o seq i ∷ rest) [] s8
  ten = moves_both setup works s5 s6 s8 deltas (again ∷ gave_packet ∷ []) acks (ack_by setup works o seq i ∷ rest) [] [] eight two

  -- ---- Acks

  -- the owner at the end
  abbrev pub q : ClientPart
  q = record qs { acked = replicate 8 seq }

  abbrev pub s9 : Scene
  s9 = with_client given_base o q

  settled_room : (xs : List ℕ) → HasRoom setup works o (record qs { acked = xs })
  settled_room xs = record {
    asked = (own.room setup works k s c o b mode g).asked;
    req = (own.room setup works k s c o b mode g).req;
    seq = le_test seq _ (let low = (own.idle setup works k s c o b mode g).end_low in let few = g.few in omega arith);
    attempt = refl;
    again = refl;
  }

  news : (x : ℕ) → x < 8 → nat_lt (slice_index p.acked x) seq ≡ true
  news x less = lt_test (slice_index p.acked x) seq (let is = own.acked setup works k s c o b mode g x less in omega arith)

  eight_acks : Moves setup works s8 acks [] [] s9
  eight_acks = acks_move setup works o seq qs given_base (settled_room p.acked) refl has_owner managers p.acked (own.idle setup works k s c o b mode g).acked news

  no_news : nat_lt (slice_index (replicate 8 seq) i) seq ≡ false
  no_news = not_lt_test (slice_index (replicate 8 seq) i) seq (let is = get_or-replicate 8 i seq 0 within in omega arith)

  ninth : Moves setup works s9 (ack_by setup works o seq i ∷ []) [] [] s9
  ninth =
      client_takes setup works given_base o q q s9 (Manager j) (body.DeltaAck (record { slot = i; epoch = 1; applied = seq })) [] [] [] [] [] has_owner
      (ack_again setup works o j i seq q (settled_room (replicate 8 seq)) refl there within no_news) (moves_none setup works s9)

  nine : Moves setup works s8 (acks ++ ack_by setup works o seq i ∷ []) [] [] s9
  nine = moves_both setup works s8 s9 s9 acks (ack_by setup works o seq i ∷ []) [] [] [] [] eight_acks ninth

  -- ---- the whole way

  -- how many deliveries
  abbrev pub count : ℕ
  count = 1 + (1 + (length stores_are + (length (storeds_by o name ms 0) + (10 + 9))))

  pub count_is : count ≡ 2 * length ms + 21
  count_is = (let a = length_stores o f ms 0 in let b = length_storeds o name ms 0 in omega arith)

  acks_come : Reaches setup works 9 s8 (acks ++ ack_by setup works o seq i ∷ rest) rest [] s9
  acks_come =
      subst (λ outs. Reaches setup works 9 s8 (acks ++ ack_by setup works o seq i ∷ rest) outs [] s9) (append-nil rest)
      (reaches_first setup works s8 s9 (acks ++ ack_by setup works o seq i ∷ []) rest [] [] nine)

  -- the want is on its way: the owner gives the block up, and the want is answered
  pub really : Reaches setup works count s1 (want_packet ∷ []) rest (filed ∷ []) s9
  really =
      reaches_layer setup works _ s1 s2 s9 (want_packet ∷ []) (recall_packet ∷ []) rest [] (filed ∷ []) want_moves
      (reaches_layer setup works _ s2 s3 s9 (recall_packet ∷ []) stores_are rest [] (filed ∷ []) recall_moves
      (reaches_layer setup works _ s3 s4 s9 stores_are (storeds_by o name ms 0) rest [] (filed ∷ []) stores_moved
      (reaches_layer setup works _ s4 s5 s9 (storeds_by o name ms 0) (deltas ++ again ∷ gave_packet ∷ []) rest (filed ∷ []) [] (stored_layer ms refl)
      (reaches_layer setup works 9 s5 s8 s9 (deltas ++ again ∷ gave_packet ∷ []) (acks ++ ack_by setup works o seq i ∷ rest) rest [] [] ten acks_come))))

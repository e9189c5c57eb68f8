-- A get of a block that the client doesn't hold begins: it asks the block's manager, whoever else holds the block; and an answer to its want, whenever it comes, is
-- accepted.
use Rattle.std.proofs.Common.{◌≡◌, ℕ, ◌+◌, ◌<◌, ◌≤◌, ◌^◌, ◌==◌, ◌&&◌, true, false, cond, nat_le, nat_lt, List, [], ◌∷◌, length, replicate, slice_index, Some, refl, sym, ap, ◌∙◌, arith}
use Rattle.std.proofs.lemmas.Bool.{false≢true}
use Rattle.std.proofs.lemmas.Option.{slice_get_within}
use Rattle.client_node.specs.Phases.{client_step}
use Rattle.client_node.specs.Room as client_rooms
use Rattle.core_world.specs.AnyNode.{any_step, as_any}
use Rattle.core_world.specs.declared.any_node.AnyNode.{AnyNode}
use Rattle.core_world.specs.declared.any_node.AnyNode.TheVariants as any
use Rattle.delta_feed.specs.Transition.{feed_push}
use Rattle.log_owner.specs.Opening.{attempt_of}
use Rattle.node_base.specs.Nodes.{has_node, peers_of}
use Rattle.node_base.specs.Room.{has_room}
use Rattle.node_base.specs.Setups.{IsSetup}
use Rattle.quiet_flow.specs.Flow.{Stage, begins, one_more, stepped, turned}
use Rattle.slot_beliefs.specs.Beliefs.{beliefs_hold, holder}
use Rattle.slot_beliefs.specs.Recalls.{applied_of, stamp}
use Rattle.token_client.proofs.Tables.{held_of-put_itself}
use Rattle.token_client.specs.declared.held.Held.{Held}
use Rattle.token_client.specs.declared.held.Wanted.{Wanted}
use Rattle.token_client.specs.Held.{held_ask as asked_for, is_answer, must_ask}
use Rattle.token_client.specs.Repetitions.{repetition}
use Rattle.token_client.specs.State.{held_of, put_held}
use Rattle.token_client.specs.Transition.{accepts}
use Rattle.token_manager.specs.SlotState.{SlotState}
use Rattle.token_manager.specs.Transition.{entry_at, is_dropped, want_of}
use Rattle.version_model.specs.declared.work.Work.{Work}
use Rattle.version_model.specs.declared.work.Work.TheVariants as work
use Rattle.wire_msg.specs.declared.packet.Do.TheVariants.{Begin}
use Rattle.wire_msg.specs.declared.packet.Packet.{Packet}
use Rattle.wire_msg.specs.NodeStep.{NodeStep}
use Rattle.world_base.specs.Cluster.{HasNode}
use Rattle.xfs_base.specs.Blocks.{slot_of}
use Rattle.xfs_base.specs.declared.block.BlockId.{BlockId}
use Rattle.xfs_base.specs.declared.entry.Entry.{Entry}
use Rattle.xfs_base.specs.declared.node.NodeId.{NodeId}
use Rattle.xfs_base.specs.declared.node.NodeId.TheVariants.{Client, Manager}
use Rattle.xfs_base.specs.declared.segment.End.{End}
use Rattle.xfs_base.specs.declared.setup.Setup.{Setup}
use Rattle.xfs_base.specs.declared.token.Mode.{Mode}
use Rattle.xfs_base.specs.declared.token.Mode.TheVariants.{Copy, Nothing, Own}
use Rattle.xfs_base.specs.Limits.{u32_end}
use Rattle.xfs_base.specs.Modes.{allows, is_nothing, same_mode}
use Rattle.xfs_base.specs.Stamps.{is_later}
use Rattle.quiet_law.proofs.Counters.{below_long, below_short, calm_turns, low_room_next}
use Rattle.quiet_law.proofs.Keeping.{idle_room, low_room, room_of}
use Rattle.quiet_law.specs.Drained.{AreSquare, Drained, IsCalm, IsIdle, IsQuietBlock, most_steps}
use Rattle.quiet_law.specs.Lines.{IsNext, Stands}
use Rattle.quiet_nodes.proofs.Begins.{HasRoom}
use Rattle.quiet_nodes.proofs.Rooms.{HaveTurns, later, number_within, promised, slot_within}
use Rattle.quiet_nodes.proofs.Staging.{client_frame, client_put, happens_as, placed_on}
use Rattle.quiet_nodes.proofs.Tests.{both, le_test, lt_test, not_lt_test, same_test}
use Rattle.quiet_nodes.proofs.Wanting.{feed_at, want_body}
use Rattle.quiet_nodes.specs.Moves.{IsPlaced}
use Rattle.quiet_nodes.specs.Scene.{ClientPart, Scene, client_at, manager_of_slot, node_at, tokens_at, with_client, with_slot}
use Rattle.quiet_reads.proofs.GetAsks.{get_asks, get_begins}

may_not_read : (m : Mode) → is_nothing m ≡ true → allows m Copy ≡ false
may_not_read Nothing h = refl
may_not_read Copy h = absurd (false≢true h)
may_not_read Own h = absurd (false≢true h)

module _ (setup : Setup) (works : NodeId → List Work) (k : ℕ) (s : Scene) (c : ℕ) (d : Drained setup works k s) (few : k < most_steps) (b : BlockId)
    (next : IsNext setup works s c (work.Bget c b)) (asks : is_nothing (held_of (s.client c).blocks b).mode ≡ true) where
  abbrev p : ClientPart
  p = s.client c

  abbrev i : ℕ
  i = slot_of b.ino.0

  abbrev j : ℕ
  j = manager_of_slot setup works i

  abbrev z : SlotState
  z = s.slot i

  abbrev h : Held
  h = held_of p.blocks b

  pub within : i < 8
  within = slot_within b.ino.0

  pub idle : IsIdle k p
  idle = d.clients c next.client.0 next.client.1

  pub calm : IsCalm setup k z
  calm = d.slots i within

  quiet : IsQuietBlock k h
  quiet = idle.blocks b

  square : AreSquare setup works c i p z
  square = d.square c i next.client.0 next.client.1 within

  pub has_test : has_node (peers_of setup) (Client c) ≡ true
  has_test = ap (λ t. t && nat_le c setup.clients) (le_test 1 c next.client.0) ∙ le_test c setup.clients next.client.1

  pub there_test : IsSetup setup → has_node (peers_of setup) (Manager j) ≡ true
  there_test ok = ap (λ t. t && nat_le j setup.managers) (le_test 1 j there.0) ∙ le_test j setup.managers there.1
    where
      there : HasNode setup (Manager j)
      there = number_within setup.managers i ok.managers.0

  -- ---- it asks

  pub room : HasRoom setup works c p
  room = idle_room setup works c k p few idle

  pub left : p.begun < length (works (Client c))
  left = slice_get_within (works (Client c)) p.begun (work.Bget c b) next.next

  pub small : p.begun < u32_end
  small = (let many = next.few in let less = left in omega arith)

  acked_is : slice_index p.acked i ≡ p.end.seq
  acked_is = sym (ap (λ t. cond t (slice_index p.acked i) 0) (lt_test i 8 within)) ∙ square.acked

  nothing_new : nat_lt (slice_index p.acked i) p.fed ≡ false
  nothing_new = (let acked = acked_is in let fed = d.fed c next.client.0 next.client.1 in not_lt_test (slice_index p.acked i) p.fed (omega arith))

  pub told : feed_push (feed_at p) i ≡ []
  unfolding feed_push
  told = rw (lt_test i 8 within, nothing_new) refl

  pub must : must_ask h Copy ≡ true
  must = rw (quiet.want, quiet.fetch, quiet.giving, may_not_read h.mode asks) refl

  pub req : nat_lt p.req u32_end ≡ true
  req = lt_test p.req u32_end (let low = below_short k p.req few idle.req_low in omega arith)

  -- the client then
  abbrev pub asked : ClientPart
  asked = get_asks setup works c p b room left small next.next idle.item asks must req within told

  abbrev pub want_packet : Packet
  want_packet = record { from = Client c; to = Manager j; clock = 0; body = want_body setup works c p b Copy }

  pub asks_so : client_step (client_at setup works c p) Begin ≡ record { node = client_at setup works c asked; packets = want_packet ∷ []; acts = [] }
  asks_so = get_begins setup works c p b room left small next.next idle.item asks must req within told

  -- ---- the scene then

  abbrev pub s1 : Scene
  s1 = with_client s c asked

  abbrev pub r1 : NodeStep AnyNode
  r1 = record { node = node_at setup works s1 (Client c); packets = want_packet ∷ []; acts = [] }

  node_asks : any_step (node_at setup works s (Client c)) Begin ≡ r1
  node_asks = ap (as_any any.Client) asks_so ∙ ap with_first (sym (client_put setup works c asked s))
    where
      with_first : AnyNode → NodeStep AnyNode
      with_first x = record { node = x; packets = want_packet ∷ []; acts = [] }

  module _ (t : Stage AnyNode) (stands : Stands setup works s t) where
    pub begins_so : begins any_step t (Client c) ≡ stepped (one_more t) (Client c) r1
    begins_so = happens_as setup works (Client c) Begin s s1 (one_more t) (want_packet ∷ []) [] next.client stands.placed node_asks

    abbrev pub t1 : Stage AnyNode
    t1 = turned (one_more t) (Client c) r1

    pub placed_1 : IsPlaced setup works s1 t1.node
    placed_1 = placed_on setup works (Client c) s s1 (one_more t) (want_packet ∷ []) [] stands.placed (client_frame setup works c asked s)

  -- ---- the manager hears it, and believes that the client has a copy

  abbrev pub entry : Entry
  entry = entry_at z b

  abbrev pub z_first : SlotState
  z_first = record z { beliefs = beliefs_hold z.beliefs (holder b c); turn = z.turn + 1 }

  abbrev pub s2 : Scene
  s2 = with_slot s1 i z_first

  all_applied : nat_lt (applied_of z.applied c) p.end.seq ≡ false
  all_applied = let same = square.applied in not_lt_test (applied_of z.applied c) p.end.seq (omega arith)

  pub taken : is_dropped z (want_of c b 1 (p.req + 1) 0 Copy) p.end.seq ≡ false
  taken = rw (calm.jobs, all_applied) refl

  pub taken_again : is_dropped z_first (want_of c b 1 (p.req + 1) 1 Copy) p.end.seq ≡ false
  taken_again = rw (calm.jobs, all_applied) refl

  pub turns : nat_lt (z.turn + 1) (2 ^ 64) ≡ true
  turns = lt_test (z.turn + 1) (2 ^ 64) (let low = below_long k z.turn few calm.turn_low in omega arith)

  pub all_turns : HaveTurns s.slot
  all_turns = calm_turns setup k s.slot few d.slots

  -- ---- an answer to the want is accepted

  abbrev pub first_held : Held
  first_held = asked_for h (p.req + 1) Copy

  abbrev pub first_blocks : List (BlockId × Held)
  first_blocks = put_held p.blocks b first_held

  pub first_is : held_of first_blocks b ≡ first_held
  first_is = held_of-put_itself b first_held p.blocks

  pub room_with : (q : ClientPart) → q.asked ≡ p.asked → q.req ≡ p.req + 1 → q.end ≡ p.end → q.flight ≡ p.flight
      → has_room (client_rooms.asked_again (tokens_at setup works q) (client_rooms.open_block q.call)) ≡ true → HasRoom setup works c q
  room_with q asked_is req_is end_is flight_is again = record {
    asked = ap has_room asked_is ∙ room_of p.asked (low_room k p.asked few idle.asked_low);
    req = ap has_room req_is ∙ room_of (p.req + 1) (low_room_next k p.req few idle.req_low);
    seq = ap (λ (x : End). has_room x.seq) end_is ∙ room_of p.end.seq (low_room k p.end.seq few idle.end_low);
    attempt = ap (λ f. has_room (attempt_of f)) (flight_is ∙ idle.flight);
    again = again;
  }

  pub asked_room : HasRoom setup works c asked
  asked_room = room_with asked refl refl refl refl (ap (λ (x : Held). has_room (repetition x.want)) first_is)

  -- under a turn of the slot that comes, for the block with this want
  pub accepted_with : (q : ClientPart) (w : Wanted) (turn : ℕ) → z.turn ≤ turn → held_of q.blocks b ≡ record h { want = Some w } → w.req ≡ p.req + 1 → w.mode ≡ Copy
      → accepts (tokens_at setup works q) b (stamp 1 (turn + 1)) 1 (p.req + 1) Copy ≡ true
  accepted_with q w turn up_to is its_req its_mode =
      both (slice_index (replicate 8 1) i == 1) (is_answer (held_of q.blocks b) (stamp 1 (turn + 1)) (p.req + 1) Copy)
      (ap (λ n. n == 1) (promised i within))
      (ap (λ x. is_answer x (stamp 1 (turn + 1)) (p.req + 1) Copy) is ∙ answers_it)
    where
      later_now : is_later (stamp 1 (turn + 1)) h.stamp ≡ true
      later_now =
          let one = (square.below b refl).0 in
          let two = (square.below b refl).1 in
          later h.stamp.epoch turn h.stamp.turn one (omega arith)

      answers_it : is_answer (record h { want = Some w }) (stamp 1 (turn + 1)) (p.req + 1) Copy ≡ true
      answers_it =
          ap (λ n. ((n == p.req + 1) && same_mode w.mode Copy) && is_later (stamp 1 (turn + 1)) h.stamp) its_req
          ∙ ap (λ m. ((p.req + 1 == p.req + 1) && same_mode m Copy) && is_later (stamp 1 (turn + 1)) h.stamp) its_mode
          ∙ ap (λ t. (t && true) && is_later (stamp 1 (turn + 1)) h.stamp) (same_test (p.req + 1))
          ∙ later_now

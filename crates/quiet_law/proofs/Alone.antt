-- A put of a block that nobody else is believed to hold: Want, Grant, and where 24 wait once it is written, a segment goes its way. From one drained state to the
-- next.
use Rattle.std.proofs.Common.{◌≡◌, ℕ, suc, ◌+◌, ◌*◌, ◌<◌, ◌≤◌, true, false, cond, nat_le, List, [], ◌∷◌, ◌++◌, length, map, slice_index, Option, refl, sym, ap, subst, ◌∙◌, append-nil, arith}
use Rattle.std.proofs.lemmas.Bool.Decides.{nat_tests}
use Rattle.client_log.specs.Transition.{prior_from}
use Rattle.core_world.specs.declared.any_node.AnyNode.{AnyNode}
use Rattle.log_flight.specs.Flights.{none_noted}
use Rattle.manager_node.specs.Events.{manager_step}
use Rattle.manager_slots.specs.Tokens.{tokens_say}
use Rattle.node_base.specs.Effects.{acts_of, packets_of}
use Rattle.node_base.specs.Room.{has_long_room}
use Rattle.node_base.specs.Setups.{IsSetup}
use Rattle.quiet_flow.specs.Flow.{Stage, unclocked}
use Rattle.segment_reading.specs.Reading.{is_known}
use Rattle.slot_beliefs.specs.Beliefs.{share_of}
use Rattle.token_client.specs.State.{held_of}
use Rattle.token_manager.specs.SlotState.{SlotState}
use Rattle.version_model.specs.declared.act.Act.{Act}
use Rattle.version_model.specs.declared.act.Act.TheVariants as acts
use Rattle.version_model.specs.declared.answer.Answer.TheVariants.{Version}
use Rattle.version_model.specs.declared.work.Work.{Work}
use Rattle.version_model.specs.declared.work.Work.TheVariants as work
use Rattle.wire_msg.specs.declared.body.Body.{Body}
use Rattle.wire_msg.specs.declared.body.Body.TheVariants as body
use Rattle.wire_msg.specs.declared.packet.Do.TheVariants.{Deliver}
use Rattle.wire_msg.specs.declared.packet.Packet.{Packet}
use Rattle.xfs_base.specs.declared.block.BlockId.{BlockId}
use Rattle.xfs_base.specs.declared.node.NodeId.{NodeId}
use Rattle.xfs_base.specs.declared.node.NodeId.TheVariants.{Client, Manager}
use Rattle.xfs_base.specs.declared.setup.Setup.{Setup}
use Rattle.xfs_base.specs.declared.token.Mode.TheVariants.{Own}
use Rattle.xfs_base.specs.Limits.{u32_end}
use Rattle.xfs_base.specs.Modes.{is_own}
use Rattle.quiet_law.specs.Drained.{AreSquare, Drained, IsCalm, IsIdle, most_steps}
use Rattle.quiet_law.specs.Lines.{Ends, IsNext, Stands, holders, sealing, tail}
use Rattle.quiet_script.specs.Quiet.{is_in_range}
use Rattle.quiet_nodes.specs.Layers.{stores_to}
use Rattle.quiet_nodes.specs.Moves.{Empties, Moves}
use Rattle.quiet_nodes.specs.Scene.{ClientPart, Scene, its_groups, manager_at, put_number, with_client, with_slot}
use Rattle.quiet_nodes.proofs.Granting.{grant_comes}
use Rattle.quiet_nodes.proofs.Managing.{want_comes, want_owns}
use Rattle.quiet_nodes.proofs.Moving.{empties_layer, empties_none, moves_none}
use Rattle.quiet_nodes.proofs.Puts.{waiting_then}
use Rattle.quiet_nodes.proofs.Rooms.{manager_room}
use Rattle.quiet_nodes.proofs.Staging.{same_itself}
use Rattle.quiet_nodes.proofs.Tests.{le_test, lt_test, not_lt_test, other_test, same_test}
use Rattle.quiet_nodes.proofs.Turns.{client_takes, slot_takes}
use Rattle.quiet_nodes.proofs.Wanting.{want_body}
use Rattle.quiet_law.proofs.Beginning.{ends_by}
use Rattle.quiet_law.proofs.Changing.{drained_both, each_of}
use Rattle.quiet_law.proofs.Counters.{calm_turns, low_next}
use Rattle.quiet_law.proofs.Filled.{acts_so, does, fills_granted, packets_so}
use Rattle.quiet_law.proofs.Keeping.{calm_more, lower}
use Rattle.quiet_law.proofs.Owning as own
use Rattle.quiet_law.proofs.PutAsking as asking
use Rattle.quiet_law.proofs.Synced.{CanSeal}
use Rattle.quiet_law.proofs.Tailing as tailing
use Rattle.quiet_law.proofs.Tailing.{tail_beliefs, tail_drained, tail_leads}
use Rattle.quiet_law.proofs.Waiting.{inserted_length}
use Rattle.quiet_law.proofs.Writes.{ends_more}
use Rattle.quiet_law.proofs.Writing.{IsReady, count_is}

module _ (setup : Setup) (works : NodeId → List Work) (k : ℕ) (s : Scene) (t : Stage AnyNode) (c : ℕ) (d : Drained setup works k s) (stands : Stands setup works s t)
    (ok : IsSetup setup) (few : k < most_steps) (b : BlockId) (value : Option (List ℕ)) (next : IsNext setup works s c (work.Bput c b value))
    (range : is_in_range setup (work.Bput c b value) ≡ true) (asks : is_own (held_of (s.client c).blocks b).mode ≡ false) (nobody : holders setup works s c b ≡ []) where
  managers : 1 ≤ setup.managers
  managers = ok.managers.0

  least : 1 ≤ c
  least = next.client.0

  most : c ≤ setup.clients
  most = next.client.1

  abbrev p : ClientPart
  p = s.client c

  abbrev item : ℕ
  item = p.begun + 1

  idle : IsIdle k p
  idle = d.clients c least most

  abbrev i : ℕ
  i = own.i setup works k s c d managers b value few next range asks nobody

  abbrev j : ℕ
  j = own.j setup works k s c d managers b value few next range asks nobody

  abbrev second : ClientPart
  second = own.second setup works k s c d managers b value few next range asks nobody

  -- the client once it is written, and the scene but for it
  abbrev q : ClientPart
  q = own.q setup works k s c d managers b value few next range asks nobody

  abbrev z : SlotState
  z = own.z_then setup works k s c d managers b value few next range asks nobody

  abbrev m : Scene
  m = with_slot s i z

  abbrev asked : ClientPart
  asked = own.asked setup works k s c d managers b value few next range asks nobody

  -- ---- each slot, and the client beside it

  at_slots : (P : ℕ → SlotState → Type 0) → P i z → ((x : ℕ) → (x ≡ i → ⊥) → P x (s.slot x)) → (x : ℕ) → P x (m.slot x)
  at_slots = each_of s.slot m.slot i z (λ x differs. ap (λ t. cond t z (s.slot x)) (other_test x i differs)) (ap (λ t. cond t z (s.slot i)) (same_test i))

  calm_then : (x : ℕ) → x < 8 → IsCalm setup (suc k) (m.slot x)
  calm_then = at_slots (λ x y. x < 8 → IsCalm setup (suc k) y) (λ _. own.calm_then setup works k s c d managers b value few next range asks nobody) (λ x differs within. calm_more setup k (s.slot x) (d.slots x within))

  square_then : (x : ℕ) → x < 8 → AreSquare setup works c x q (m.slot x)
  square_then = at_slots (λ x y. x < 8 → AreSquare setup works c x q y) (λ _. own.square_then setup works k s c d managers b value few next range asks nobody) (λ x differs within. own.elsewhere setup works k s c d managers b value few next range asks nobody x differs within)

  theirs_then : (e : ℕ) → (e ≡ c → ⊥) → 1 ≤ e → e ≤ setup.clients → (x : ℕ) → x < 8 → AreSquare setup works e x (s.client e) (m.slot x)
  theirs_then e differs l h =
      at_slots (λ x y. x < 8 → AreSquare setup works e x (s.client e) y) (λ _. own.theirs setup works k s c d managers b value few next range asks nobody e differs l h) (λ x other within. d.square e x l h within)

  index_same : (x : ℕ) → (m.slot x).index ≡ (s.slot x).index
  index_same = at_slots (λ x y. y.index ≡ (s.slot x).index) refl (λ x differs. refl)

  -- ---- the segment

  fed : q.fed ≡ q.end.seq
  fed = d.fed c least most

  linked : is_known (its_groups setup works) (prior_from q.end) ≡ true
  linked = d.linked c least most

  few_more : suc k ≤ 40000
  few_more = few

  acked : (x : ℕ) → x < 8 → slice_index q.acked x ≡ q.end.seq
  acked x within = sym (ap (λ t. cond t (slice_index p.acked x) 0) (lt_test x 8 within)) ∙ (d.square c x least most within).acked

  enough : (n : ℕ) → n ≤ 64 * suc k → n ≤ 2560000
  enough n low = omega (arith, low, few_more)

  long_room : (n : ℕ) → n ≤ 64 * suc k → has_long_room n ≡ true
  long_room n low = le_test n _ (omega (arith, low, few_more))

  ready : (x : ℕ) → x < 8 → IsReady c q.end.seq (m.slot x)
  ready x within = (let calm = calm_then x within in record {
    turns = record { epoch = calm.epoch; turn = long_room (m.slot x).turn calm.turn_low };
    jobs = calm.jobs;
    applied = (square_then x within).applied;
    counted = calm.counted;
    rows_low = enough (length (m.slot x).index.rows) calm.rows_low;
  })

  can : CanSeal (suc k) q
  can = record {
    blocks = own.quiet_then setup works k s c d managers b value few next range asks nobody;
    few = (let long = inserted_length b (own.change setup works k s c d managers b value few next range asks nobody) p.dirty in let short = idle.few in omega (arith, long, short));
    waits = own.waits_then setup works k s c d managers b value few next range asks nobody;
    fits = own.fits_then setup works k s c d managers b value few next range asks nobody;
    filed = idle.filed;
    acked = idle.acked;
    asked_low = lower k p.asked idle.asked_low;
    req_low = low_next k p.req idle.req_low;
    end_low = low_next k p.end.seq idle.end_low;
  }

  abbrev u : Scene
  u = tailing.last_scene setup works k c m q can ok few_more least most fed linked acked ready

  abbrev count : ℕ
  count = tailing.count setup works k c m q can ok few_more least most fed linked acked ready

  abbrev filed : Act
  filed = tailing.filed setup works k c m q can ok few_more least most fed linked acked ready

  -- ---- Want, Grant

  abbrev want : Body
  want = want_body setup works c p b Own

  abbrev grant : Body
  grant = body.Grant (record { block = b; stamp = own.its_stamp setup works k s c d managers b value few next range asks nobody; inc = 1; req = p.req + 1; mode = Own; entry = own.entry setup works k s c d managers b value few next range asks nobody })

  abbrev grant_packet : Packet
  grant_packet = record { from = Manager j; to = Client c; clock = 0; body = grant }

  grants_so : manager_step (manager_at setup works j s.slot) (Deliver (record { from = Client c; to = Manager j; clock = 0; body = want })) ≡ record {
    node = manager_at setup works j (put_number s.slot i z);
    packets = grant_packet ∷ [];
    acts = [];
  }
  unfolding tokens_say
  grants_so =
      want_comes setup works j c 0 s.slot (record { block = b; inc = 1; req = p.req + 1; again = 0; mode = Own; end = p.end.seq }) (own.within setup works k s c d managers b value few next range asks nobody)
      (same_itself setup works j) (manager_room setup works j s.slot (calm_turns setup k s.slot few d.slots)) (own.has_test setup works k s c d managers b value few next range asks nobody) z _ (want_owns (s.slot i) c 1 (p.req + 1) p.end.seq b
      (own.taken setup works k s c d managers b value few next range asks nobody) nobody (own.turns setup works k s c d managers b value few next range asks nobody))

  want_moves : Moves setup works (with_client s c asked) (record { from = Client c; to = Manager j; clock = 0; body = want } ∷ []) (grant_packet ∷ []) [] (with_client m c asked)
  want_moves =
      slot_takes setup works (with_client s c asked) i z (with_client m c asked) (Client c) want (grant_packet ∷ []) [] [] [] [] (own.there_test setup works k s c d managers b value few next range asks nobody) grants_so
      (moves_none setup works (with_client m c asked))

  -- ---- where fewer than 24 wait then

  module _ (not_full : nat_le 24 (length (waiting_then second b value)) ≡ false) where
    abbrev wrote : List Act
    wrote = acts.Wrote c b value ∷ acts.Answered (Client c) item (Version ((held_of second.blocks b).ver + 1)) ∷ []

    write_moves : Moves setup works (with_client m c asked) (grant_packet ∷ []) [] (wrote ++ []) (with_client m c q)
    write_moves =
        client_takes setup works m c asked q (with_client m c q) (Manager j) grant [] [] [] wrote [] (own.has_test setup works k s c d managers b value few next range asks nobody)
        (grant_comes setup works c asked b value item refl refl (own.its_stamp setup works k s c d managers b value few next range asks nobody) (p.req + 1)
        (own.entry setup works k s c d managers b value few next range asks nobody) (own.accepted setup works k s c d managers b value few next range asks nobody) j 0
        (own.asked_room setup works k s c d managers b value few next range asks nobody) (own.there_test setup works k s c d managers b value few next range asks nobody)
        (own.long setup works k s c d managers b value few next range asks nobody) (own.its_log setup works k s c d managers b value few next range asks nobody)
        (own.its_known setup works k s c d managers b value few next range asks nobody) (own.none_given setup works k s c d managers b value few next range asks nobody)
        (own.more setup works k s c d managers b value few next range asks nobody) (own.fits setup works k s c d managers b value few next range asks nobody) not_full)
        (moves_none setup works (with_client m c q))

    writes : Empties setup works 2 (with_client s c asked) (record { from = Client c; to = Manager j; clock = 0; body = want } ∷ []) (wrote ++ []) (with_client m c q)
    writes =
        empties_layer setup works 1 (with_client s c asked) (with_client m c asked) (with_client m c q) _ (grant_packet ∷ []) [] (wrote ++ []) want_moves
        (empties_layer setup works 0 (with_client m c asked) (with_client m c q) (with_client m c q) (grant_packet ∷ []) [] (wrote ++ []) [] write_moves
        (empties_none setup works (with_client m c q)))

    fewer_than : (n : ℕ) → nat_le 24 n ≡ false → n ≤ 23
    fewer_than n is = grind (arith, nat_tests)

    idle_then : IsIdle (suc k) q
    idle_then = record {
      call = refl;
      item = refl;
      flight = idle.flight;
      blocks = can.blocks;
      few = fewer_than (length q.dirty) not_full;
      waits = can.waits;
      fits = can.fits;
      filed = can.filed;
      acked = can.acked;
      asked_low = can.asked_low;
      req_low = can.req_low;
      end_low = lower k p.end.seq idle.end_low;
    }

    puts_and_owns : Ends setup works k 2 s t c item
    puts_and_owns =
        ends_by setup works k s (with_client m c q) t c item 2 2 asked (record { from = Client c; to = Manager j; clock = 0; body = want } ∷ []) [] (wrote ++ []) stands least most
        (asking.asks_so setup works k s c d few b value next asks) writes (omega arith)
        (drained_both setup works k s (with_client m c q) c i q z d (own.but setup works k s c d managers b value few next range asks nobody) (record {
          idle = idle_then;
          fed = fed;
          end = refl;
          calm = own.calm_then setup works k s c d managers b value few next range asks nobody;
          square = own.square_then setup works k s c d managers b value few next range asks nobody;
          elsewhere = own.elsewhere setup works k s c d managers b value few next range asks nobody;
          theirs = own.theirs setup works k s c d managers b value few next range asks nobody;
        }))
        (ap (λ t. (cond t q (s.client c)).begun) (same_test c))
        (λ e differs. ap (λ t. (cond t q (s.client e)).begun) (other_test e c differs))
        (record { answer = Version ((held_of second.blocks b).ver + 1); of_call = tt; before = acts.Wrote c b value ∷ []; after = []; are = refl; none_before = refl; none_after = refl })
        (own.believed_then setup works k s c d managers b value few next range asks nobody)

  -- ---- where 24 do

  module _ (full : nat_le 24 (length (waiting_then second b value)) ≡ true) where
    abbrev flies : ClientPart
    flies = tailing.flies setup works k c m q can ok few_more least most fed linked acked ready none_noted

    abbrev done : List Act
    done = acts_of (Client c) (does setup works c second b value item)

    grant_moves : Moves setup works (with_client m c asked) (grant_packet ∷ [])
        (map unclocked (packets_of (Client c) (does setup works c second b value item)) ++ []) (done ++ []) (with_client m c flies)
    grant_moves =
        client_takes setup works m c asked flies (with_client m c flies) (Manager j) grant (packets_of (Client c) (does setup works c second b value item)) [] [] done []
        (own.has_test setup works k s c d managers b value few next range asks nobody)
        (fills_granted setup works c asked b value item refl refl (own.its_stamp setup works k s c d managers b value few next range asks nobody) (p.req + 1) (own.entry setup works k s c d managers b value few next range asks nobody)
        (own.accepted setup works k s c d managers b value few next range asks nobody) j (own.asked_room setup works k s c d managers b value few next range asks nobody) (own.there_test setup works k s c d managers b value few next range asks nobody) (own.long setup works k s c d managers b value few next range asks nobody) (own.its_log setup works k s c d managers b value few next range asks nobody) (own.its_known setup works k s c d managers b value few next range asks nobody) (own.none_given setup works k s c d managers b value few next range asks nobody)
        (own.more setup works k s c d managers b value few next range asks nobody) (own.fits setup works k s c d managers b value few next range asks nobody) idle.flight full (lt_test p.end.seq u32_end (let low = idle.end_low in omega (arith, low, few))))
        (moves_none setup works (with_client m c flies))

    stores_so : map unclocked (packets_of (Client c) (does setup works c second b value item)) ++ [] ≡ stores_to c (tailing.f setup works k c m q can ok few_more least most fed linked acked ready) (tailing.f setup works k c m q can ok few_more least most fed linked acked ready).group.members 0
    stores_so = append-nil _ ∙ packets_so setup works c second b value item

    leads : Empties setup works (1 + (1 + count)) (with_client s c asked) (record { from = Client c; to = Manager j; clock = 0; body = want } ∷ [])
        ((done ++ []) ++ filed ∷ []) u
    leads =
        empties_layer setup works (1 + count) (with_client s c asked) (with_client m c asked) u _ (grant_packet ∷ []) [] ((done ++ []) ++ filed ∷ []) want_moves
        (empties_layer setup works count (with_client m c asked) (with_client m c flies) u (grant_packet ∷ []) _ (done ++ []) (filed ∷ []) grant_moves
        (subst (λ ps. Empties setup works count (with_client m c flies) ps (filed ∷ []) u) (sym stores_so) (tail_leads setup works k c m q can ok few_more least most fed linked acked ready)))

    puts_and_fills : Ends setup works k (2 + (2 * sealing setup works s c + 16)) s t c item
    puts_and_fills =
        ends_by setup works k s u t c item (1 + (1 + count)) (2 + (2 * sealing setup works s c + 16)) asked
        (record { from = Client c; to = Manager j; clock = 0; body = want } ∷ []) [] ((done ++ []) ++ filed ∷ []) stands least most
        (asking.asks_so setup works k s c d few b value next asks) leads
        (let is = count_is setup works (suc k) c m q can ok few_more least most fed linked acked ready in omega arith)
        (tail_drained setup works k c m q can ok few_more least most fed linked acked ready s d (record {
          clients = λ e differs. refl;
          held = λ v. refl;
          end = refl;
          index = λ x within. index_same x;
          calm = calm_then;
          square = square_then;
          theirs = theirs_then;
        }))
        (ap (λ t. (cond t (tailing.q setup works k c m q can ok few_more least most fed linked acked ready) (s.client c)).begun) (same_test c))
        (λ e differs. ap (λ t. (cond t (tailing.q setup works k c m q can ok few_more least most fed linked acked ready) (s.client e)).begun) (other_test e c differs))
        (record {
          answer = Version ((held_of second.blocks b).ver + 1);
          of_call = tt;
          before = acts.Wrote c b value ∷ [];
          after = filed ∷ [];
          are = ap (λ xs. (xs ++ []) ++ filed ∷ []) (acts_so setup works c second b value item);
          none_before = refl;
          none_after = refl;
        })
        (λ x within y e has. own.believed_then setup works k s c d managers b value few next range asks nobody x within y e (subst (λ bs. 1 ≤ share_of bs y e) (tail_beliefs setup works k c m q can ok few_more least most fed linked acked ready x within) has))

  -- ---- both

  tail_is : nat_le 24 (length (waiting_then second b value)) ≡ true → tail setup works s c ≡ 2 * sealing setup works s c + 16
  tail_is full =
      ap (λ t. cond t 0 (2 * sealing setup works s c + 16))
      (not_lt_test (length p.dirty) 23 (let long = inserted_length b (own.change setup works k s c d managers b value few next range asks nobody) p.dirty in least_of (length p.dirty) (length (waiting_then second b value)) long full))
    where
      least_of : (n l : ℕ) → l ≤ n + 1 → nat_le 24 l ≡ true → 23 ≤ n
      least_of n l long is = grind (arith, nat_tests)

  two_more : (n : ℕ) → 2 ≤ 2 + n
  two_more n = omega arith

  pub puts_alone : Ends setup works k (2 + tail setup works s c) s t c item
  puts_alone =
      elim (nat_le 24 (length (waiting_then second b value))) as
      (λ full. nat_le 24 (length (waiting_then second b value)) ≡ full → Ends setup works k (2 + tail setup works s c) s t c item) [
        | true ↦ λ full. subst (λ n. Ends setup works k (2 + n) s t c item) (sym (tail_is full)) (puts_and_fills full)
        | false ↦ λ not_full. ends_more setup works k 2 (2 + tail setup works s c) s t c item (two_more (tail setup works s c))
            (puts_and_owns not_full)
      ] refl

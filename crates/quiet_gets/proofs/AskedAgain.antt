-- A get of a block that isn't held, where the client that is told to pass its copy on has none any more: the next round has the asker ask again, and it is granted a
-- copy. The state is drained again.
use Rattle.version_model.specs.declared.work.Work.TheVariants as work
use Rattle.version_model.specs.declared.act.Act.TheVariants as acts
use Rattle.wire_msg.specs.declared.body.Body.TheVariants as body
use Rattle.xfs_base.specs.declared.token.Mode.TheVariants.{Copy}
use Rattle.quiet_law.specs.Lines.{EndsAfterRound, IsNext, Stands, fetching, holders}
use Rattle.quiet_gets.specs.Laws.{owners, told_nodes}
use Rattle.quiet_gets.proofs.CopyDrained.{copy_drained, copy_named}
use Rattle.quiet_gets.proofs.GetAsking as on
use Rattle.quiet_gets.proofs.PassedOn as was
use Rattle.quiet_flow.specs.Flow.{Done, Drains, Stage, begins, one_more, stepped}
use Rattle.quiet_law.specs.Drained.{Drained, IsCalm, IsIdle, most_steps}
use Rattle.token_client.specs.Held.{held_ask as asked_for, asked_again}
use Rattle.token_client.specs.Transition.{accepts}
use Rattle.token_manager.specs.declared.input.In.TheVariants as input
use Rattle.token_manager.specs.declared.output.Out.TheVariants as out
use Rattle.node_base.specs.Nodes as nodes
use Rattle.node_base.specs.Nodes.{has_node, peers_of}
use Rattle.xfs_base.specs.declared.node.NodeId.TheVariants.{Client, Manager, Registry}
use Rattle.quiet_gets.proofs.PlaceReading.{grant_of, granted_reads}
use Rattle.quiet_law.proofs.Keeping.{idle_room, put_each, room_of}
use Rattle.world_base.specs.Cluster.{cluster_of, nodes_of}
use Rattle.quiet_gets.specs.Passing.{AreInOrder, AsksAlone, IsAsking, IsSilent, Passed, all_news, asked_more, first_want, news_to, want_again}
use Rattle.std.proofs.Common.{List, None, [], ap, append-nil, arith, cond, length, nat_lt, refl, subst, sym, true, ℕ, ◌++◌, ◌+◌, ◌-◌, ◌<◌, ◌^◌, ◌∙◌, ◌∷◌, ◌≡◌, ◌≤◌}
use Rattle.client_running.specs.Running.{run}
use Rattle.core_world.specs.AnyNode.{any_step}
use Rattle.core_world.specs.declared.any_node.AnyNode.{AnyNode}
use Rattle.manager_slots.specs.Tokens.{tokens_say}
use Rattle.node_base.specs.Room.{has_room}
use Rattle.node_base.specs.Setups.{IsSetup}
use Rattle.quiet_gets.proofs.ClientTicks.{waits_on}
use Rattle.quiet_gets.proofs.CopyReading.{ReadsCopy}
use Rattle.quiet_gets.proofs.NewsLayer.{how_many_told, news_move, others_there}
use Rattle.quiet_gets.proofs.Round.{round_passes}
use Rattle.quiet_gets.proofs.Silence.{idle_silent, no_new_deltas, no_want_there}
use Rattle.quiet_gets.proofs.Others.{others_held}
use Rattle.quiet_gets.proofs.WantPassed.{held_again, want_again_grants}
use Rattle.quiet_gets.proofs.Wants.{NoWants, one_unspent, one_wanted}
use Rattle.quiet_gets.specs.Forwards.{supplied_from}
use Rattle.quiet_law.proofs.Changing.{each_of}
use Rattle.quiet_law.proofs.Counters.{below_short, low_room_next}
use Rattle.quiet_law.proofs.Waiting.{other_held}
use Rattle.quiet_nodes.proofs.Begins.{HasRoom}
use Rattle.quiet_nodes.proofs.Managing.{want_comes}
use Rattle.quiet_nodes.proofs.Moving.{empties_layer, empties_none}
use Rattle.quiet_nodes.proofs.Rooms.{HaveTurns, manager_room, slot_within, turns_put}
use Rattle.quiet_nodes.proofs.Running.{runs_none}
use Rattle.quiet_nodes.proofs.Tests.{le_test, lt_test, other_test, same_test}
use Rattle.quiet_nodes.proofs.Turns.{slot_takes}
use Rattle.quiet_nodes.specs.Moves.{Empties, IsPlaced, Moves}
use Rattle.quiet_nodes.specs.Scene.{ClientPart, Scene, manager_of_slot, serving_at, tokens_at, with_client, with_slot}
use Rattle.quiet_reads.proofs.Evicting.{OrGone}
use Rattle.slot_beliefs.specs.Beliefs.{beliefs_hold, holder, others}
use Rattle.slot_beliefs.specs.Recalls.{stamp}
use Rattle.std.proofs.lemmas.List.{length-map}
use Rattle.token_client.proofs.Tables.{held_of-put_itself}
use Rattle.token_client.specs.Repetitions.{repetition}
use Rattle.token_client.specs.State.{held_of, put_held}
use Rattle.token_client.specs.declared.held.Held.{Held}
use Rattle.token_manager.specs.SlotState.{SlotState}
use Rattle.token_manager.specs.Transition.{entry_at, transition, want_of}
use Rattle.version_model.specs.declared.act.Act.{Act}
use Rattle.version_model.specs.declared.answer.Answer.TheVariants.{Got}
use Rattle.version_model.specs.declared.work.Work.{Work}
use Rattle.wire_msg.specs.declared.packet.Packet.{Packet}
use Rattle.xfs_base.specs.Blocks.{slot_of}
use Rattle.xfs_base.specs.Limits.{u32_end}
use Rattle.xfs_base.specs.Modes.{is_nothing}
use Rattle.xfs_base.specs.declared.block.BlockId.{BlockId}
use Rattle.xfs_base.specs.declared.entry.Entry.{Entry}
use Rattle.xfs_base.specs.declared.node.NodeId.{NodeId}
use Rattle.xfs_base.specs.declared.setup.Setup.{Setup}

module _ (setup : Setup) (works : NodeId → List Work) (k : ℕ) (s : Scene) (t : Stage AnyNode) (c : ℕ) (b : BlockId) (e : ℕ) (es : List ℕ) (ok : IsSetup setup)
    (few : k < most_steps) (d : Drained setup works k s) (stands : Stands setup works s t) (next : IsNext setup works s c (work.Bget c b))
    (asks : is_nothing (held_of (s.client c).blocks b).mode ≡ true) (held : holders setup works s c b ≡ e ∷ es) (unowned : owners setup works s c b ≡ [])
    (order : AreInOrder setup works s) (gone : was.passed setup works k s c b e es ok few d next asks held unowned ≡ None) where
  abbrev p : ClientPart
  p = s.client c

  abbrev i : ℕ
  i = slot_of b.ino.0

  abbrev j : ℕ
  j = manager_of_slot setup works i

  abbrev z : SlotState
  z = s.slot i

  abbrev entry : Entry
  entry = entry_at z b

  abbrev item : ℕ
  item = p.begun + 1

  abbrev req : ℕ
  req = p.req + 1

  idle : IsIdle k p
  idle = d.clients c next.client.0 next.client.1

  calm : IsCalm setup k z
  calm = d.slots i (slot_within b.ino.0)

  has_test : has_node (peers_of setup) (Client c) ≡ true
  has_test = on.has_test setup works k s c d few b next asks

  there_test : has_node (peers_of setup) (Manager j) ≡ true
  there_test = on.there_test setup works k s c d few b next asks ok

  abbrev asked : ClientPart
  asked = on.asked setup works k s c d few b next asks

  abbrev z_first : SlotState
  z_first = on.z_first setup works k s c d few b next asks

  abbrev s1 : Scene
  s1 = on.s1 setup works k s c d few b next asks

  abbrev s2 : Scene
  s2 = on.s2 setup works k s c d few b next asks

  abbrev t1 : Stage AnyNode
  t1 = on.t1 setup works k s c d few b next asks t stands

  abbrev want_packet : Packet
  want_packet = on.want_packet setup works k s c d few b next asks

  abbrev forward_packet : Packet
  forward_packet = was.forward_packet setup works k s c b e es ok few d next asks held unowned

  begins_so : begins any_step t (Client c) ≡ stepped (one_more t) (Client c) (on.r1 setup works k s c d few b next asks)
  begins_so = on.begins_so setup works k s c d few b next asks t stands

  placed_1 : IsPlaced setup works s1 t1.node
  placed_1 = on.placed_1 setup works k s c d few b next asks t stands

  forwards : Moves setup works s1 (want_packet ∷ []) (forward_packet ∷ []) [] s2
  forwards = was.forwards setup works k s c b e es ok few d next asks held unowned

  abbrev first_held : Held
  first_held = asked_for (held_of p.blocks b) req Copy

  abbrev first_blocks : List (BlockId × Held)
  first_blocks = put_held p.blocks b first_held

  first_is : held_of first_blocks b ≡ first_held
  first_is = on.first_is setup works k s c d few b next asks

  abbrev first_turn : ℕ
  first_turn = z.turn + 1

  -- ---- nothing is passed on

  nothing_sent : Moves setup works s2 (forward_packet ∷ []) [] [] s2
  nothing_sent =
      subst (λ o. Moves setup works s2 (forward_packet ∷ []) (supplied_from setup works e b (stamp 1 first_turn) c req entry.ver o) [] s2) gone
      (was.passes_on setup works k s c b e es ok few d next asks held unowned)

  waits_then : Empties setup works 2 s1 (want_packet ∷ []) [] s2
  waits_then =
      empties_layer setup works 1 s1 s2 s2 (want_packet ∷ []) (forward_packet ∷ []) [] [] forwards
      (empties_layer setup works 0 s2 s2 s2 (forward_packet ∷ []) [] [] [] nothing_sent (empties_none setup works s2))

  -- ---- time passes

  others_as : (x : ℕ) → (x ≡ c → ⊥) → s2.client x ≡ s.client x
  others_as x differs = ap (λ test. cond test asked (s.client x)) (other_test x c differs)

  its_part : s2.client c ≡ asked
  its_part = ap (λ test. cond test asked (s.client c)) (same_test c)

  its_slot : s2.slot i ≡ z_first
  its_slot = ap (λ test. cond test z_first (s.slot i)) (same_test i)

  slots_as : (m : ℕ) → (m ≡ i → ⊥) → s2.slot m ≡ s.slot m
  slots_as m differs = ap (λ test. cond test z_first (s.slot m)) (other_test m i differs)

  its_wants : NoWants p.blocks
  its_wants = no_want_there setup works k s few d order c next.client.0 next.client.1

  asking : IsAsking setup works c asked b req
  asking = record {
    call = refl;
    flight = idle.flight;
    nothing = ap (λ (g : Held). is_nothing g.mode) first_is ∙ asks;
    want = ap (λ (g : Held). g.want) first_is;
    alone = one_wanted b first_held (first_want setup works req) refl p.blocks its_wants;
    unspent = one_unspent b first_held (first_want setup works req) refl p.blocks its_wants refl;
    told = no_new_deltas setup works k s few d order c next.client.0 next.client.1;
    room = on.asked_room setup works k s c d few b next asks;
  }

  first_turns : HaveTurns s2.slot
  first_turns =
      turns_put s.slot i z_first (on.all_turns setup works k s c d few b next asks)
      (record { epoch = calm.epoch; turn = le_test (z.turn + 1) _ (let low = calm.turn_low in omega (arith, low)) })

  alone : AsksAlone setup works s2 c asked b req
  alone = record {
    client = next.client;
    part = its_part;
    asks = asking;
    silent = λ x differs least most. subst (IsSilent setup works x) (sym (others_as x differs)) (idle_silent setup works k s few d order x least most);
    jobs = put_each (λ m (y : SlotState). m < 8 → y.jobs ≡ []) s.slot i z_first (λ inside. calm.jobs) (λ m inside. (d.slots m inside).jobs);
    turns = first_turns;
  }

  abbrev asked_twice : ClientPart
  asked_twice = asked_more setup works asked b req

  abbrev u1 : Scene
  u1 = with_client s2 c asked_twice

  abbrev again_packet : Packet
  again_packet = want_again setup works asked c b req

  time_passes : (mid : Stage AnyNode) → IsPlaced setup works s2 mid.node → Passed setup works mid (nodes_of (cluster_of setup)) (again_packet ∷ all_news setup works) u1
  time_passes mid placed = round_passes setup works s2 c asked b req alone mid placed

  -- ---- the want that is sent again is granted

  abbrev second_turn : ℕ
  second_turn = z.turn + 1 + 1

  abbrev z_second : SlotState
  z_second = record z_first { beliefs = beliefs_hold z_first.beliefs (holder b c); turn = second_turn }

  abbrev u2 : Scene
  u2 = with_slot u1 i z_second

  abbrev granting : ℕ → Packet
  granting epoch = grant_of setup works c b (stamp epoch second_turn) req j entry

  abbrev grant_packet : Packet
  grant_packet = granting 1

  second_turns : HaveTurns u2.slot
  second_turns =
      turns_put s2.slot i z_second first_turns
      (record { epoch = calm.epoch; turn = le_test (z.turn + 1 + 1) _ (let low = calm.turn_low in omega (arith, low)) })

  second_is : held_of asked_twice.blocks b ≡ asked_again first_held (first_want setup works req)
  second_is =
      held_of-put_itself b (asked_again (held_of first_blocks b) (first_want setup works req)) first_blocks
      ∙ ap (λ g. asked_again g (first_want setup works req)) first_is

  second_room : HasRoom setup works c asked_twice
  second_room = on.room_with setup works k s c d few b next asks asked_twice refl refl refl refl
      (ap (λ (x : Held). has_room (repetition x.want)) second_is)

  each_client : (P : ℕ → ClientPart → Type 0) → P c asked_twice → ((x : ℕ) → (x ≡ c → ⊥) → P x (s.client x)) → (x : ℕ) → P x (u2.client x)
  each_client = each_of s.client u2.client c asked_twice
      (λ x differs. ap (λ test. cond test asked_twice (s2.client x)) (other_test x c differs) ∙ others_as x differs)
      (ap (λ test. cond test asked_twice (s2.client c)) (same_test c))

  abbrev Waits : ℕ → ClientPart → Type 0
  Waits x part = run (serving_at setup works x part) ≡ record { state = serving_at setup works x part; outs = [] }

  news_come_to_all : Moves setup works u2 (all_news setup works) [] [] u2
  news_come_to_all =
      news_move setup works u2 second_turns
      (each_client (λ x part. 1 ≤ x → x ≤ setup.clients → HasRoom setup works x part) (λ least most. second_room)
      (λ x differs least most. idle_room setup works x k (s.client x) few (d.clients x least most)))
      (each_client (λ x part. 1 ≤ x → x ≤ setup.clients → Waits x part) (λ least most. waits_on setup works c asked b req asking)
      (λ x differs least most. runs_none (serving_at setup works x (s.client x)) (d.clients x least most).call))
      (nodes.others (peers_of setup) Registry) (others_there setup)

  still_unowned : others z_first.beliefs b c true ≡ []
  still_unowned = others_held z.beliefs b c true ∙ unowned

  turns_left : nat_lt (z.turn + 1 + 1) (2 ^ 64) ≡ true
  turns_left = lt_test (z.turn + 1 + 1) (2 ^ 64) (let low = calm.turn_low in omega (arith, low))

  granted_now : transition (s2.slot i) (input.Want (want_of c b 1 req 1 Copy) p.end.seq)
      ≡ record { state = z_second; outs = out.Grant c b (stamp z.epoch second_turn) 1 req Copy entry ∷ [] }
  granted_now =
      ap (λ y. transition y (input.Want (want_of c b 1 req 1 Copy) p.end.seq)) its_slot
      ∙ want_again_grants z_first c 1 req p.end.seq b (on.taken_again setup works k s c d few b next asks) still_unowned turns_left

  grants_again : Moves setup works u1 (again_packet ∷ all_news setup works) (grant_packet ∷ []) [] u2
  unfolding tokens_say
  grants_again =
      subst (λ epoch. Moves setup works u1 (again_packet ∷ all_news setup works) (granting epoch ∷ []) [] u2) calm.epoch
      (slot_takes setup works u1 i z_second u2 (Client c) (body.Want (record { block = b; inc = 1; req = req; again = 1; mode = Copy; end = p.end.seq }))
      (granting z.epoch ∷ [])
      (all_news setup works) [] [] [] there_test
      (want_comes setup works j c 0 u1.slot (record { block = b; inc = 1; req = req; again = 1; mode = Copy; end = p.end.seq }) (slot_within b.ino.0)
      (same_test j) (manager_room setup works j u1.slot first_turns) has_test z_second _ granted_now)
      news_come_to_all)

  -- ---- the copy is read

  abbrev base : Scene
  base = with_slot s2 i z_second

  accepted : accepts (tokens_at setup works asked_twice) b (stamp 1 second_turn) 1 req Copy ≡ true
  accepted = on.accepted_with setup works k s c d few b next asks asked_twice (record { req = req; again = 1; mode = Copy }) (z.turn + 1)
      (omega arith) second_is refl refl

  ungiven : (held_of asked_twice.blocks b).giving ≡ None
  ungiven = ap (λ (g : Held). g.giving) second_is ∙ (idle.blocks b).giving

  r : ReadsCopy setup works base c asked_twice b item entry.ver (stamp 1 second_turn) grant_packet (1 + fetching setup works s b)
  r =
      granted_reads setup works ok s base (λ v. refl) c asked_twice b item entry.ver (stamp 1 second_turn) refl refl idle.flight ungiven req accepted second_room
      (lt_test p.asked u32_end (let low = below_short k p.asked few idle.asked_low in omega (arith, low))) (room_of (p.asked + 1) (low_room_next k p.asked few idle.asked_low))
      has_test j entry.hop there_test entry.place (d.legible i (slot_within b.ino.0) b refl)

  abbrev last_part : ClientPart
  last_part = record asked_twice { asked = r.asked; item = None; blocks = r.blocks; cached = r.cached; call = None }

  abbrev u : Scene
  u = with_client base c last_part

  abbrev done : List Act
  done = acts.Read c b entry.ver r.value ∷ acts.Answered (Client c) item (Got entry.ver r.value) ∷ []

  abbrev layer : List Packet
  layer = again_packet ∷ all_news setup works

  empties : Empties setup works (length layer + r.deliveries) u1 layer done u
  empties = empties_layer setup works r.deliveries u1 u2 u layer (grant_packet ∷ []) [] done grants_again r.reads

  -- ---- what has changed

  others_now : (x : BlockId) → (x ≡ b → ⊥) → OrGone (held_of p.blocks x) (held_of r.blocks x)
  others_now x differs =
      subst (λ g. OrGone g (held_of r.blocks x))
      (other_held b (asked_again (held_of first_blocks b) (first_want setup works req)) first_blocks x differs ∙ other_held b first_held p.blocks x differs) (r.others_as x differs)

  clients_now : (x : ℕ) → (x ≡ c → ⊥) → u.client x ≡ s.client x
  clients_now x differs = ap (λ test. cond test last_part (s2.client x)) (other_test x c differs) ∙ others_as x differs

  client_now : u.client c ≡ last_part
  client_now = ap (λ test. cond test last_part (s2.client c)) (same_test c)

  slots_now : (m : ℕ) → (m ≡ i → ⊥) → u.slot m ≡ s.slot m
  slots_now m differs = ap (λ test. cond test z_second (s2.slot m)) (other_test m i differs) ∙ slots_as m differs

  slot_now : u.slot i ≡ record z { beliefs = beliefs_hold z.beliefs (holder b c); turn = second_turn }
  slot_now =
      ap (λ test. cond test z_second (s2.slot i)) (same_test i)
      ∙ ap (λ bs. record z { beliefs = bs; turn = second_turn }) (held_again z.beliefs (holder b c))

  all_deliveries : length layer + r.deliveries ≤ 2 + told_nodes setup + fetching setup works s b
  all_deliveries =
      let few_more = r.few in
      let told = how_many_told setup in
      let long = length-map (nodes.others (peers_of setup) Registry) (news_to setup works) in
      omega (arith, few_more, told, long)

  pub ends_later : EndsAfterRound setup works k 2 (2 + told_nodes setup + fetching setup works s b) s t c item
  ends_later =
      let first = waits_then t1 placed_1 in
      let passed = time_passes first.end first.is_after.placed in
      let last = empties passed.end passed.is_after.placed in
      record {
        mid = first.end;
        first = 2;
        first_few = omega arith;
        first_drains = subst (λ (x : Done AnyNode). Drains any_step setup 2 x.state x.outs first.end) (sym begins_so) first.drains;
        waits = first.is_after.answered ∙ ap (λ n. ((n + 1) - 0) - 0) stands.settled;
        scene = u;
        end = last.end;
        second = length layer + r.deliveries;
        second_few = all_deliveries;
        second_drains = subst (λ (x : Done AnyNode). Drains any_step setup (length layer + r.deliveries) x.state x.outs last.end) (sym passed.is) last.drains;
        answered = record {
          stands = record {
            placed = last.is_after.placed;
            settled =
                last.is_after.answered
                ∙ ap (λ n. n - 1) passed.is_after.answered
                ∙ ap (λ n. (n - 0) - 1) first.is_after.answered
                ∙ ap (λ n. ((((n + 1) - 0) - 0) - 0) - 1) stands.settled;
          };
          drained = copy_drained setup works k s c d next.client.0 next.client.1 b asks unowned second_turn (omega arith) (omega arith) r.asked r.asks_few r.blocks r.cached
              r.copy r.last_is others_now r.is_copy u clients_now client_now slots_now slot_now (λ v. refl);
          begun = ap (λ (x : ClientPart). x.begun) client_now;
          others = λ o differs. ap (λ (x : ClientPart). x.begun) (clients_now o differs);
          answer = Got entry.ver r.value;
          of_call = tt;
          before = acts.Read c b entry.ver r.value ∷ [];
          after = [];
          acted =
              last.is_after.acted
              ∙ ap (λ xs. xs ++ done) (passed.is_after.acted ∙ append-nil first.end.acts ∙ first.is_after.acted ∙ append-nil (t.acts ++ []) ∙ append-nil t.acts);
          none_before = refl;
          none_after = refl;
          believed = copy_named setup works k s c d next.client.0 next.client.1 b asks unowned second_turn (omega arith) (omega arith) r.asked r.asks_few r.blocks r.cached
              r.copy r.last_is others_now r.is_copy u clients_now client_now slots_now slot_now (λ v. refl) next.next;
        };
      }

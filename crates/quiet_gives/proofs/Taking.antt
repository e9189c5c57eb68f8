-- A client wants a block of which others must give way, who hold it clean: each of them is sent a recall and gives the block up, or keeps a copy. The line goes on as
-- if they had done so before it.
use Rattle.std.proofs.Common.{◌≡◌, ℕ, suc, ◌+◌, ◌*◌, ◌<◌, ◌≤◌, ◌^◌, ◌==◌, ◌&&◌, ◌||◌, Bool, true, false, cond, not, nat_lt, nat_le, List, [], ◌∷◌, ◌++◌, length, map, slice_index, refl, sym, ap, subst, ◌∙◌, append-nil, arith}
use Rattle.std.specs.Prelude.{flat_map}
use Rattle.std.specs.List.{AllByRecursion}
use Rattle.std.proofs.lemmas.Bool.Decides.{nat_tests}
use Rattle.core_world.specs.declared.any_node.AnyNode.{AnyNode}
use Rattle.core_world.specs.declared.any_node.AnyNode.TheVariants as any
use Rattle.delta_feed.specs.Transition.{feed_push}
use Rattle.manager_slots.specs.Tokens.{tokens_say}
use Rattle.node_base.specs.Effects.{acts_of, packets_of}
use Rattle.node_base.specs.Nodes.{has_node, peers_of}
use Rattle.node_base.specs.Setups.{IsSetup}
use Rattle.quiet_flow.specs.Flow.{Stage, flows, unclocked}
use Rattle.slot_beliefs.specs.Beliefs.{others, share_of}
use Rattle.slot_beliefs.specs.declared.job.Wanted.{Wanted}
use Rattle.slot_beliefs.specs.Recalls.{applied_of}
use Rattle.token_client.specs.Held.{is_dirty}
use Rattle.token_client.specs.State.{held_of}
use Rattle.token_manager.specs.declared.input.In.TheVariants as input
use Rattle.token_manager.specs.SlotState.{SlotState}
use Rattle.token_manager.specs.Transition.{Done, answer, slot_finish, has_turns, is_dropped, passers, recall_or_finish, transition, want_of}
use Rattle.version_model.specs.declared.work.Work.{Work}
use Rattle.wire_msg.specs.declared.body.Body.TheVariants as body
use Rattle.wire_msg.specs.declared.packet.Packet.{Packet}
use Rattle.wire_msg.specs.declared.tokens.Want.{Want}
use Rattle.world_base.specs.Cluster.{HasNode}
use Rattle.xfs_base.specs.Blocks.{slot_of}
use Rattle.xfs_base.specs.declared.block.BlockId.{BlockId}
use Rattle.xfs_base.specs.declared.node.NodeId.{NodeId}
use Rattle.xfs_base.specs.declared.node.NodeId.TheVariants.{Client, Cleaner, Manager, Registry, Server}
use Rattle.xfs_base.specs.declared.setup.Setup.{Setup}
use Rattle.xfs_base.specs.declared.token.Mode.{Mode}
use Rattle.xfs_base.specs.Modes.{is_nothing, is_own}
use Rattle.xfs_base.specs.Steps.{still}
use Rattle.quiet_gives.specs.Recalls.{all_gave, all_given_up, clients_gave, gaves_by, recalls_to}
use Rattle.quiet_gives.proofs.GaveLayer.{IsApplied, gaves_move}
use Rattle.quiet_gives.proofs.Given.{fewer_given, none_left}
use Rattle.quiet_gives.proofs.GivenDrained as given
use Rattle.quiet_gives.proofs.GivenDrained.{drained_given, few_hs}
use Rattle.quiet_gives.proofs.Givers.{gave_beside, is_among, stays}
use Rattle.quiet_gives.proofs.RecallLayer.{EachGivesUp, GivesUp, recalls_move}
use Rattle.quiet_gives.proofs.SlotAgain.{put_twice, same_manager}
use Rattle.quiet_gives.proofs.WantRecalls.{recalling_slot, want_moves}
use Rattle.quiet_law.specs.Drained.{AreSquare, Drained, IsCalm, IsIdle, most_steps}
use Rattle.quiet_law.specs.Lines.{Stands}
use Rattle.quiet_law.proofs.AsIf.{Reaches, reaches_layer}
use Rattle.quiet_law.proofs.Counters.{calm_turns}
use Rattle.quiet_law.proofs.Keeping.{idle_room}
use Rattle.quiet_nodes.specs.Moves.{Moves}
use Rattle.quiet_nodes.specs.Scene.{ClientPart, Scene, client_at, manager_of_slot, node_at, server_at, with_client, with_slot}
use Rattle.quiet_nodes.proofs.Managing.{want_comes}
use Rattle.quiet_nodes.proofs.Moving.{after_none, moves_none}
use Rattle.quiet_nodes.proofs.Rooms.{HasTurns, HaveTurns, manager_room, number_within, slot_within}
use Rattle.quiet_nodes.proofs.Tests.{le_test, lt_test, not_lt_test, other_test, same_test}
use Rattle.quiet_nodes.proofs.Turns.{slot_takes}
use Rattle.quiet_nodes.proofs.Wanting.{feed_at}

-- ---- scenes that are the same

module _ (setup : Setup) (works : NodeId → List Work) where
  pub same_nodes : (r h : Scene) → ((e : ℕ) → r.client e ≡ h.client e) → ((y : ℕ) → r.slot y ≡ h.slot y) → ((v : ℕ) → r.held v ≡ h.held v) → (name : NodeId)
      → node_at setup works r name ≡ node_at setup works h name
  same_nodes r h clients slots held (Client e) = ap (λ p. any.Client (client_at setup works e p)) (clients e)
  same_nodes r h clients slots held (Manager j) = ap any.Manager (same_manager setup works j r.slot h.slot slots)
  same_nodes r h clients slots held (Server v) = ap (λ fs. any.Server (server_at setup works v fs)) (held v)
  same_nodes r h clients slots held Cleaner = refl
  same_nodes r h clients slots held Registry = refl

  -- nothing more is delivered
  reaches_none : (u : Scene) (rest : List Packet) → Reaches setup works 0 u rest rest [] u
  unfolding flows
  reaches_none u rest t placed = record { end = t; flows_so = refl; is_after = after_none setup works t u placed }

  recalls_length : (b : BlockId) (keep : Bool) (turn : ℕ) (ds : List ℕ) → length (recalls_to setup works b keep turn ds) ≡ length ds
  recalls_length b keep turn [] = refl
  recalls_length b keep turn (d ∷ ds) = ap suc (recalls_length b keep (turn + 1) ds)

  gaves_length : (b : BlockId) (keep : Bool) (ends : ℕ → ℕ) (turn : ℕ) (ds : List ℕ) → length (gaves_by setup works b keep ends turn ds) ≡ length ds
  gaves_length b keep ends turn [] = refl
  gaves_length b keep ends turn (d ∷ ds) = ap suc (gaves_length b keep ends (turn + 1) ds)

-- what holds of each of two, holds of each together
zipped : (P Q R : ℕ → Type 0) → ((e : ℕ) → P e → Q e → R e) → (ds : List ℕ) → AllByRecursion P ds → AllByRecursion Q ds → AllByRecursion R ds
zipped P Q R f [] ps qs = tt
zipped P Q R f (d ∷ ds) ps qs = (f d ps.0 qs.0, zipped P Q R f ds ps.1 qs.1)

module _ (setup : Setup) (works : NodeId → List Work) (ok : IsSetup setup) (k : ℕ) (s : Scene) (t : Stage AnyNode) (c : ℕ) (b : BlockId) (mode : Mode)
    (few : suc k < most_steps) (d : Drained setup works k s) (stands : Stands setup works s t) (least : 1 ≤ c) (most : c ≤ setup.clients)
    (wanted : is_nothing mode ≡ false) (clean : AllByRecursion (λ e. is_dirty (held_of (s.client e).blocks b) ≡ false)
    (others (s.slot (slot_of b.ino.0)).beliefs b c (not (is_own mode)))) where
  abbrev pub i : ℕ
  i = slot_of b.ino.0

  abbrev pub j : ℕ
  j = manager_of_slot setup works i

  abbrev pub z : SlotState
  z = s.slot i

  abbrev pub keep : Bool
  keep = not (is_own mode)

  -- those who must give way
  abbrev pub hs : List ℕ
  hs = others z.beliefs b c keep

  within : i < 8
  within = slot_within b.ino.0

  calm : IsCalm setup k z
  calm = d.slots i within

  sooner : k < 40000
  sooner = omega (arith, few)

  turns : HaveTurns s.slot
  turns = calm_turns setup k s.slot sooner d.slots

  pub most_clients : setup.clients ≤ 8
  most_clients = (let limit = ok.clients.1 in omega arith)

  -- ---- as if they had given it up before

  abbrev pub m : Scene
  m = given.m setup works k s c b keep d most_clients clean

  abbrev pub z_then : SlotState
  z_then = given.z_then setup works k s c b keep d most_clients clean

  pub drained_m : Drained setup works (suc k) m
  drained_m = drained_given setup works k s c b keep d most_clients clean

  pub few_of : length hs ≤ 9
  few_of = few_hs setup works k s c b keep d most_clients clean

  abbrev AreOthers : List ℕ → Type 0
  AreOthers ds = AllByRecursion (λ e. (e ≡ c → ⊥) × ((1 ≤ e) × (e ≤ setup.clients))) ds

  are_others : AreOthers hs
  are_others = given.are_clients setup works k s c b keep d most_clients clean

  apart_c : AllByRecursion (λ e. (e == c) ≡ false) hs
  apart_c = all_apart hs are_others
    where
      all_apart : (ds : List ℕ) → AreOthers ds → AllByRecursion (λ e. (e == c) ≡ false) ds
      all_apart [] all = tt
      all_apart (e ∷ ds) all = (other_test e c all.0.0, all_apart ds all.1)

  not_among : (ds : List ℕ) → AllByRecursion (λ e. (e == c) ≡ false) ds → is_among c ds ≡ false
  not_among [] all = refl
  not_among (e ∷ ds) all = ap (λ t. t || is_among c ds) (other_test c e (λ same. differs e all.0 (sym same))) ∙ not_among ds all.1
    where
      differs : (n : ℕ) → (n == c) ≡ false → n ≡ c → ⊥
      differs n h same = grind (arith, nat_tests)

  pub same : m.client c ≡ s.client c
  same = stays setup works b keep s.client z.turn hs c (not_among hs apart_c)

  pub slot_is : m.slot i ≡ z_then
  slot_is = given.slot_is setup works k s c b keep d most_clients clean

  pub none_m : others z_then.beliefs b c keep ≡ []
  none_m = none_left b c keep z.beliefs hs calm.ordered refl

  there_c : has_node (peers_of setup) (Client c) ≡ true
  there_c = ap (λ t. t && nat_le c setup.clients) (le_test 1 c least) ∙ le_test c setup.clients most

  there_j : has_node (peers_of setup) (Manager j) ≡ true
  there_j =
      (let it = number_within setup.managers i ok.managers.0 in
      ap (λ t. t && nat_le j setup.managers) (le_test 1 j it.0) ∙ le_test j setup.managers it.1)

  -- ---- each client

  module _ (e : ℕ) (l : 1 ≤ e) (u : e ≤ setup.clients) where
    abbrev pe : ClientPart
    pe = s.client e

    idle_e : IsIdle k pe
    idle_e = d.clients e l u

    square_e : AreSquare setup works e i pe z
    square_e = d.square e i l u within

    acked_is : slice_index pe.acked i ≡ pe.end.seq
    acked_is = sym (ap (λ t. cond t (slice_index pe.acked i) 0) (lt_test i 8 within)) ∙ square_e.acked

    nothing_new : nat_lt (slice_index pe.acked i) pe.fed ≡ false
    nothing_new = (let acked = acked_is in let fed = d.fed e l u in not_lt_test (slice_index pe.acked i) pe.fed (omega arith))

    pub told_e : feed_push (feed_at pe) i ≡ []
    unfolding feed_push
    told_e = rw (lt_test i 8 within, nothing_new) refl

    there_e : has_node (peers_of setup) (Client e) ≡ true
    there_e = ap (λ t. t && nat_le e setup.clients) (le_test 1 e l) ∙ le_test e setup.clients u

    gives_e : is_dirty (held_of pe.blocks b) ≡ false → GivesUp setup works b keep z.turn e pe
    gives_e its_clean = record {
      there = there_e;
      room = idle_room setup works e k pe sooner idle_e;
      idle = idle_e.call;
      told = told_e;
      givable = record {
        fetch = (idle_e.blocks b).fetch;
        clean = its_clean;
        epoch = (square_e.below b refl).0;
        turn_before = (square_e.below b refl).1;
      };
    }

    applied_e : nat_le pe.end.seq (applied_of z.applied e) ≡ true
    applied_e = (let is = square_e.applied in le_test pe.end.seq (applied_of z.applied e) (omega arith))

  -- ---- the client has asked, with this number and this end of its log

  module _ (asked : ClientPart) (req end : ℕ) (end_is : end ≡ (s.client c).end.seq) where
    abbrev pub ask : Wanted
    ask = want_of c b 1 req 0 mode

    abbrev its_want : Want
    its_want = record { block = b; inc = 1; req = req; again = 0; mode = mode; end = end }

    abbrev pub want_packet : Packet
    want_packet = record { from = Client c; to = Manager j; clock = 0; body = body.Want its_want }

    all_applied : nat_lt (applied_of z.applied c) end ≡ false
    all_applied = (let is = (d.square c i least most within).applied in let same_end = end_is in not_lt_test (applied_of z.applied c) end (omega arith))

    taken : is_dropped z ask end ≡ false
    taken = rw (wanted, calm.jobs, all_applied) refl

    -- ---- as if: the want is answered at once

    -- the slot then, and what it says
    abbrev pub answered_slot : List ℕ → Done
    answered_slot xs = slot_finish (record z { beliefs = all_given_up b keep z.beliefs xs; jobs = []; turn = z.turn + length xs }) ask

    abbrev pub said_then : List ℕ → List Packet
    said_then xs = map unclocked (packets_of (Manager j) (flat_map (tokens_say i z.epoch) (answered_slot xs).outs))

    abbrev z_answered : SlotState
    z_answered = (answered_slot hs).state

    abbrev pub h : Scene
    h = with_slot (with_client m c asked) i z_answered

    taken_then : is_dropped z_then ask end ≡ false
    taken_then = rw (wanted, all_applied) refl

    turn_room : z.turn + length hs ≤ 2560009
    turn_room = (let low = calm.turn_low in let short = few_of in omega (arith, low, short, few))

    left_one : has_turns z_then.turn 1 ≡ true
    left_one = lt_test (z_then.turn + 1) (2 ^ 64) (let short = turn_room in omega (arith, short))

    answers_so : transition (m.slot i) (input.Want (want_of c b 1 req 0 mode) end) ≡ answered_slot hs
    answers_so =
        ap (λ y. transition y (input.Want (want_of c b 1 req 0 mode) end)) slot_is
        ∙ ap (λ t. cond t (still z_then) (recall_or_finish z_then ask (others z_then.beliefs b c keep))) taken_then
        ∙ ap (recall_or_finish z_then ask) none_m
        ∙ ap (λ t. cond t (slot_finish z_then ask) (still z_then)) left_one

    turns_m : HaveTurns m.slot
    turns_m = calm_turns setup (suc k) m.slot few drained_m.slots

    epoch_m : (m.slot i).epoch ≡ z.epoch
    epoch_m = ap (λ (y : SlotState). y.epoch) slot_is

    no_acts : (epoch : ℕ) (y : SlotState) (cs : List ℕ) → acts_of (Manager j) (flat_map (tokens_say i epoch) (answer y ask cs ∷ [])) ≡ []
    unfolding tokens_say
    no_acts epoch y [] = refl
    no_acts epoch y (e ∷ cs) = refl

    pub as_if : Moves setup works (with_client m c asked) (want_packet ∷ []) (said_then hs) [] h
    as_if =
        subst (λ ps. Moves setup works (with_client m c asked) (want_packet ∷ []) ps [] h)
        (append-nil _ ∙ ap (λ e. map unclocked (packets_of (Manager j) (flat_map (tokens_say i e) (answered_slot hs).outs))) epoch_m)
        (subst (λ acts. Moves setup works (with_client m c asked) (want_packet ∷ [])
        (map unclocked (packets_of (Manager j) (flat_map (tokens_say i (m.slot i).epoch) (answered_slot hs).outs)) ++ []) acts h)
        (append-nil _ ∙ no_acts (m.slot i).epoch z_then (passers z_then ask))
        (slot_takes setup works (with_client m c asked) i z_answered h (Client c) (body.Want its_want) _ [] [] _ [] there_j
        (want_comes setup works j c 0 m.slot its_want within (same_test j) (manager_room setup works j m.slot turns_m) there_c z_answered (answered_slot hs).outs answers_so)
        (moves_none setup works h)))

    -- ---- really: each of them

    abbrev s1 : Scene
    s1 = with_client s c asked

    as_before : (e : ℕ) → (e ≡ c → ⊥) → s1.client e ≡ s.client e
    as_before e differs = ap (λ t. cond t asked (s.client e)) (other_test e c differs)

    each_gives : EachGivesUp setup works b keep s1.client z.turn hs
    each_gives =
        zipped (λ e. (e ≡ c → ⊥) × ((1 ≤ e) × (e ≤ setup.clients))) (λ e. is_dirty (held_of (s.client e).blocks b) ≡ false)
        (λ e. GivesUp setup works b keep z.turn e (s1.client e))
        (λ e who its_clean. subst (GivesUp setup works b keep z.turn e) (sym (as_before e who.0)) (gives_e e who.1.0 who.1.1 its_clean)) hs are_others clean

    abbrev ends : ℕ → ℕ
    ends e = (s1.client e).end.seq

    -- ---- really: the packets

    abbrev pub steps_of : List ℕ → ℕ
    steps_of xs = 1 + (length (recalls_to setup works b keep z.turn xs) + (length (gaves_by setup works b keep ends z.turn xs) + 0))

    abbrev pub scene_of : List ℕ → Scene
    scene_of xs = with_slot (record s { client = clients_gave setup works b keep s1.client z.turn xs }) i (answered_slot xs).state

    module _ (first : ℕ) (ds : List ℕ) (are : hs ≡ first ∷ ds) where
      abbrev its : List ℕ
      its = first ∷ ds

      its_room : z.turn + length its ≤ 2560009
      its_room = subst (λ xs. z.turn + length xs ≤ 2560009) are turn_room

      abbrev s2 : Scene
      s2 = with_slot s1 i (recalling_slot 1 z ask its)

      asks_moves : Moves setup works s1 (want_packet ∷ []) (recalls_to setup works b keep z.turn its) [] s2
      asks_moves =
          want_moves setup works b mode s1 c req end within turns there_c there_j first ds calm.jobs taken are
          (lt_test (z.turn + length its) (2 ^ 64) (let short = its_room in omega (arith, short)))

      gives_moves : Moves setup works s2 (recalls_to setup works b keep z.turn its) (gaves_by setup works b keep ends z.turn its) []
          (all_gave setup works b keep s2 z.turn its)
      gives_moves = recalls_move setup works b keep within there_j s2 z.turn its (subst (EachGivesUp setup works b keep s1.client z.turn) are each_gives)

      abbrev s3 : Scene
      s3 = record s { client = clients_gave setup works b keep s1.client z.turn its }

      abbrev z_waits : SlotState
      z_waits = record z { turn = z.turn + length its }

      z_turns : HasTurns z_waits
      z_turns = record { epoch = calm.epoch; turn = le_test (z.turn + length its) _ (let short = its_room in omega (arith, short)) }

      applied_all : AllByRecursion (IsApplied setup z_waits ends) its
      applied_all = subst (AllByRecursion (IsApplied setup z_waits ends)) are (each_applied hs are_others)
        where
          each_applied : (xs : List ℕ) → AreOthers xs → AllByRecursion (IsApplied setup z_waits ends) xs
          each_applied [] all = tt
          each_applied (e ∷ xs) all = (
            record {
              there = there_e e all.0.1.0 all.0.1.1;
              upto = ap (λ (p : ClientPart). nat_le p.end.seq (applied_of z.applied e)) (as_before e all.0.0) ∙ applied_e e all.0.1.0 all.0.1.1;
            },
            each_applied xs all.1,
          )

      gaves_so : Moves setup works (all_gave setup works b keep s2 z.turn its) (gaves_by setup works b keep ends z.turn its) (said_then its) [] (scene_of its)
      gaves_so =
          gaves_move setup works s3 z_waits ask ends within turns z_turns (lt_test ((z.turn + length its) + 1) (2 ^ 64) (let short = its_room in omega (arith, short)))
          there_j ds first z.turn [] z.beliefs refl applied_all

      really_its : Reaches setup works (steps_of its) s1 (want_packet ∷ []) (said_then its) [] (scene_of its)
      really_its =
          reaches_layer setup works _ s1 s2 (scene_of its) (want_packet ∷ []) (recalls_to setup works b keep z.turn its) (said_then its) [] [] asks_moves
          (reaches_layer setup works _ s2 (all_gave setup works b keep s2 z.turn its) (scene_of its) (recalls_to setup works b keep z.turn its)
          (gaves_by setup works b keep ends z.turn its) (said_then its) [] [] gives_moves
          (reaches_layer setup works 0 (all_gave setup works b keep s2 z.turn its) (scene_of its) (scene_of its) (gaves_by setup works b keep ends z.turn its)
          (said_then its) (said_then its) [] [] gaves_so (reaches_none setup works (scene_of its) (said_then its))))

      pub really : Reaches setup works (steps_of hs) s1 (want_packet ∷ []) (said_then hs) [] (scene_of hs)
      really = subst (λ xs. Reaches setup works (steps_of xs) s1 (want_packet ∷ []) (said_then xs) [] (scene_of xs)) (sym are) really_its

    -- ---- both are alike

    pub alike : (name : NodeId) → HasNode setup name → node_at setup works (scene_of hs) name ≡ node_at setup works h name
    alike name has =
        same_nodes setup works (scene_of hs) h (gave_beside setup works b keep s.client c asked z.turn hs apart_c)
        (λ y. sym (put_twice setup works s.slot i z_then z_answered y)) (λ v. refl) name

    pub begun_as : (e : ℕ) → (m.client e).begun ≡ (s.client e).begun
    begun_as =
        given.each_client setup works k s c b keep d most_clients clean (λ e (p : ClientPart). p.begun ≡ (s.client e).begun) (λ e outside. refl)
        (λ e q has g. ap (λ (p : ClientPart). p.begun) g.rest)

    pub fewer_then : (y : ℕ) → y < 8 → (x : BlockId) (e : ℕ) → 1 ≤ share_of (m.slot y).beliefs x e → 1 ≤ share_of (s.slot y).beliefs x e
    fewer_then y inside x e =
        given.each_slot setup works k s c b keep d most_clients clean (λ n (v : SlotState). 1 ≤ share_of v.beliefs x e → 1 ≤ share_of (s.slot n).beliefs x e)
        (λ has. (let less = fewer_given b keep z.beliefs hs calm.ordered x e in omega arith)) (λ n differs has. has) y

    pub steps_are : steps_of hs ≡ 1 + 2 * length hs
    steps_are =
        (let a = recalls_length setup works b keep z.turn hs in let g = gaves_length setup works b keep ends z.turn hs in
        counted (length (recalls_to setup works b keep z.turn hs)) (length (gaves_by setup works b keep ends z.turn hs)) (length hs) a g)
      where
        counted : (a g n : ℕ) → a ≡ n → g ≡ n → 1 + (a + (g + 0)) ≡ 1 + 2 * n
        counted a g n is_a is_g = omega arith

-- A segment on its way, from the client that sealed it to the client that knows that all slots have applied it: Store n, Stored n, Deltas 8, Ack 8.
use Rattle.std.proofs.Common.{◌≡◌, ℕ, zero, suc, ◌+◌, ◌*◌, ◌<◌, ◌≤◌, ◌==◌, ◌&&◌, Bool, true, nat_lt, nat_le, List, [], ◌∷◌, ◌++◌, drop, map, length, replicate, slice_index, slice_set, Some, None, is_some, refl, sym, ap, subst, ◌∙◌, append-nil, arith}
use Rattle.std.specs.Prelude.{slice_index_or}
use Rattle.std.specs.List.{AllByRecursion}
use Rattle.client_log.specs.Transition.{end_of, prior_from}
use Rattle.client_node.specs.Serving.{cached_upto}
use Rattle.delta_feed.specs.Transition.{rows_after, slot_rows}
use Rattle.group_map.specs.declared.group.Member.{Member}
use Rattle.log_flight.specs.declared.flight.Fate.TheVariants.{Settle, Wait}
use Rattle.log_flight.specs.Fate.{fate_of}
use Rattle.log_flight.specs.Flights.{FlightState, is_of, no_member, none_noted, flight_note}
use Rattle.log_owner.specs.Promised.{managers_start}
use Rattle.log_owner.specs.Sending.{name_of, push_all}
use Rattle.node_base.specs.declared.effects.Effect.{Effect}
use Rattle.node_base.specs.declared.effects.Effect.TheVariants.{Does, Send}
use Rattle.node_base.specs.Effects.{acts_of, packets_of}
use Rattle.node_base.specs.Nodes.{has_node, peers_of}
use Rattle.node_base.specs.Room.{has_long_room}
use Rattle.node_base.specs.Setups.{IsSetup}
use Rattle.node_base.specs.Shape.{is_name}
use Rattle.quiet_flow.specs.Flow.{unclocked}
use Rattle.segment_format.specs.Ranges.{FitsPrior}
use Rattle.segment_reading.specs.Reading.{is_known}
use Rattle.slot_beliefs.specs.Index.{IsCounted}
use Rattle.slot_beliefs.specs.Recalls.{applied_of, ready_blocks}
use Rattle.token_manager.specs.SlotState.{SlotState}
use Rattle.token_manager.specs.Transition.{with_deltas}
use Rattle.version_model.specs.declared.act.Act.{Act}
use Rattle.version_model.specs.declared.act.Act.TheVariants as acts
use Rattle.version_model.specs.declared.work.Work.{Work}
use Rattle.wire_msg.specs.declared.body.Body.TheVariants as body
use Rattle.wire_msg.specs.declared.packet.Packet.{Packet}
use Rattle.xfs_base.proofs.Alls.{all_filter}
use Rattle.xfs_base.proofs.SegmentNames.{same_itself}
use Rattle.xfs_base.specs.declared.block.BlockId.{BlockId}
use Rattle.xfs_base.specs.declared.entry.Entry.{Entry}
use Rattle.xfs_base.specs.declared.node.NodeId.{NodeId}
use Rattle.xfs_base.specs.declared.node.NodeId.TheVariants.{Client, Manager}
use Rattle.xfs_base.specs.declared.setup.Setup.{Setup}
use Rattle.xfs_base.specs.Limits.{all_slots}
use Rattle.quiet_law.specs.Drained.{IsLow}
use Rattle.quiet_nodes.specs.Layers.{IsFirst, ack_by, deltas_to, storeds_by, stores_to, with_pieces}
use Rattle.quiet_nodes.specs.Moves.{Empties, Moves}
use Rattle.quiet_nodes.specs.Scene.{ClientPart, Scene, its_groups, manager_of_slot, with_client}
use Rattle.quiet_nodes.proofs.AckLayer.{acks_move}
use Rattle.quiet_nodes.proofs.Begins.{HasRoom}
use Rattle.quiet_nodes.proofs.DeltasLayer.{AreTaken, TakesNext, all_told, all_told_at, deltas_move}
use Rattle.quiet_nodes.proofs.Eight.{eight_same}
use Rattle.quiet_nodes.proofs.Moving.{empties_layer, empties_none}
use Rattle.quiet_nodes.proofs.Notes.{AreNoted, none_are, one_noted, settles_last, waits_on}
use Rattle.quiet_nodes.proofs.Rooms.{HasTurns, HaveTurns, number_within}
use Rattle.quiet_nodes.proofs.Settling.{Known, all_settled, pushes_are}
use Rattle.quiet_nodes.proofs.StoreLayer.{IsTaken, stores_move}
use Rattle.quiet_nodes.proofs.StoredLayer.{IsLast, IsNoted, storeds_move}
use Rattle.quiet_nodes.proofs.Tests.{le_test, lt_test}
use Rattle.quiet_nodes.proofs.Wanting.{feed_at}
use Rattle.quiet_law.proofs.Rows.{AreLying, all_pass, counts_rise, fewer, newest_alone, rows_known, rows_of_log}
use Rattle.quiet_law.proofs.Spelling.{IsSpelled}
use Rattle.quiet_law.proofs.Stripes.{IsStriped, striped}
use Rattle.quiet_law.proofs.Synced.{CanSeal, its_rows, its_segment, rows_few, rows_low, rows_lying, seals_text}

-- a slot that takes what the next segment of a log says
pub record IsReady (c seq : ℕ) (z : SlotState) : Type 0 where
  pub turns : HasTurns z
  pub jobs : z.jobs ≡ []
  pub applied : applied_of z.applied c ≡ seq
  pub counted : IsCounted z.index
  pub rows_low : length z.index.rows ≤ 2560000

module _ (setup : Setup) (works : NodeId → List Work) (k c : ℕ) (m : Scene) (p : ClientPart) (can : CanSeal k p) (ok : IsSetup setup) (few : k ≤ 40000) (least : 1 ≤ c)
    (most : c ≤ setup.clients) (fed : p.fed ≡ p.end.seq) (linked : is_known (its_groups setup works) (prior_from p.end) ≡ true)
    (acked : (i : ℕ) → i < 8 → slice_index p.acked i ≡ p.end.seq) (ready : (i : ℕ) → i < 8 → IsReady c p.end.seq (m.slot i)) where
  abbrev pub f : FlightState
  f = its_segment setup works k c p can

  abbrev pub seq : ℕ
  seq = p.end.seq + 1

  abbrev pub rows : List (BlockId × Entry)
  rows = its_rows setup works k c p can

  abbrev pub ms : List Member
  ms = f.group.members

  -- ---- what of the setup counts

  pub few_clients : c ≤ 8
  few_clients = (let limit = ok.clients.1 in omega arith)

  pub has_client : has_node (peers_of setup) (Client c) ≡ true
  has_client = ap (λ t. t && nat_le c setup.clients) (le_test 1 c least) ∙ le_test c setup.clients most

  pub managers : (i : ℕ) → i < 8 → has_node (peers_of setup) (Manager (manager_of_slot setup works i)) ≡ true
  managers i within =
      (let there = number_within setup.managers i ok.managers.0 in
      ap (λ t. t && nat_le (manager_of_slot setup works i) setup.managers) (le_test 1 (manager_of_slot setup works i) there.0)
      ∙ le_test (manager_of_slot setup works i) setup.managers there.1)

  pub striped_so : IsStriped setup works ok f.group
  striped_so = striped setup works ok c seq

  pub of_log : is_name f.segment.name ≡ true
  of_log = ap (λ t. t && nat_le c 13) (le_test 1 c least) ∙ le_test c 13 (let limit = few_clients in omega arith)

  pub taken : IsTaken setup works f
  taken = record { of_log = of_log; group = ap is_some striped_so.found; prior = linked; above = refl }

  pub segment_spelled : FitsPrior (prior_from p.end) → IsSpelled f.segment
  segment_spelled prior =
      seals_text setup works k c p can (least, (let limit = few_clients in omega arith)) (let low = can.end_low in omega (arith, low, few)) prior striped_so.low

  -- ---- the client while it waits, and then

  abbrev pub flies : List Bool → ClientPart
  flies noted = record p { dirty = drop 24 p.dirty; flight = Some (record f { noted = noted }) }

  abbrev known : Known
  known = all_settled (cached_upto setup.cache) (record { blocks = p.blocks; cached = p.cached }) rows

  abbrev pub settled : ClientPart
  settled = record p {
    item = None;
    call = None;
    blocks = known.blocks;
    cached = known.cached;
    end = end_of f.segment;
    dirty = drop 24 p.dirty;
    flight = None;
    filed = p.filed ++ record { seq = seq; rows = rows } ∷ [];
    fed = seq;
  }

  abbrev pub told : List Effect
  told = Does (acts.Filed (name_of (record { 0 = c }) (end_of f.segment))) ∷ push_all (managers_start setup.managers) (feed_at settled)

  first_at : (xs : List Member) → AllByRecursion (IsFirst setup) xs → (at : ℕ) → at < length xs → (slice_index_or xs at no_member).generation ≡ 1
  first_at [] each at within = absurd (omega arith)
  first_at (x ∷ xs) each zero within = each.0.0
  first_at (x ∷ xs) each (suc at) within = first_at xs each.1 at (omega arith)

  module _ (place : ℕ) (noted : List Bool) (are : AreNoted noted place) where
    pub its : place < length ms → is_of (record f { noted = noted }) f.segment.name place 1 ≡ true
    its within =
        ap (λ t. t && (nat_lt place (length ms) && (1 == (slice_index_or ms place no_member).generation))) (same_itself f.segment.name)
        ∙ ap (λ t. t && (1 == (slice_index_or ms place no_member).generation)) (lt_test place (length ms) within)
        ∙ ap (λ g. 1 == g) (first_at ms striped_so.each place within)

    within_eight : place < length ms → place < 8
    within_eight within = (let limit = striped_so.few in omega arith)

    pub waits : place + 1 < length ms → fate_of (its_groups setup works) (flight_note (record f { noted = noted }) place) ≡ Wait
    waits less =
        waits_on setup works (record f { noted = slice_set noted place true }) striped_so.each (place + 1)
        (one_noted noted place (within_eight (omega (arith, less))) are) less

    pub lands : place + 1 ≡ length ms → fate_of (its_groups setup works) (flight_note (record f { noted = noted }) place) ≡ Settle
    lands all =
        settles_last setup works (record f { noted = slice_set noted place true }) striped_so.each (place + 1)
        (one_noted noted place (within_eight (omega (arith, all))) are) (omega (arith, all))

  -- ---- what the slots are told

  abbrev pub slot_told : ℕ → List (BlockId × Entry)
  slot_told i = slot_rows i rows

  its_acked : (i : ℕ) → i < 8 → slice_index settled.acked i ≡ p.end.seq
  its_acked i within = acked i within

  more : (i : ℕ) → i < 8 → nat_lt (slice_index settled.acked i) settled.fed ≡ true
  more i within = lt_test (slice_index settled.acked i) seq (let is = acked i within in omega arith)

  abbrev push : ℕ → ℕ → List (BlockId × Entry) → Effect
  push i first told_rows = Send (Manager (manager_of_slot setup works i)) (body.Deltas (record { slot = i; first = first; upto = seq; rows = told_rows }))

  push_is : (i : ℕ) → i < 8
      → push i (slice_index settled.acked i + 1) (rows_after i (slice_index settled.acked i) settled.filed) ≡ push i seq (slot_told i)
  push_is i within =
      ap (λ a. push i (a + 1) (rows_after i a settled.filed)) (acked i within)
      ∙ ap (push i seq) (newest_alone i p.end.seq seq p.filed rows can.filed (lt_test p.end.seq seq (omega arith)))

  pushes_so : push_all (managers_start setup.managers) (feed_at settled) ≡ map (λ i. push i seq (slot_told i)) all_slots
  pushes_so =
      pushes_are setup works settled more
      ∙ eight_same (λ i. push i (slice_index settled.acked i + 1) (rows_after i (slice_index settled.acked i) settled.filed)) (λ i. push i seq (slot_told i)) push_is

  abbrev deltas : List Packet
  deltas = map (λ i. deltas_to setup works c seq i (slot_told i)) all_slots

  -- whatever is done after it
  pub deltas_are : (after : List Effect) → map unclocked (packets_of (Client c) (told ++ after)) ≡ deltas ++ map unclocked (packets_of (Client c) after)
  deltas_are after =
      ap (λ pushes. map unclocked (packets_of (Client c) ((Does (acts.Filed (name_of (record { 0 = c }) (end_of f.segment))) ∷ pushes) ++ after))) pushes_so

  pub acts_are : (after : List Effect) → acts_of (Client c) (told ++ after) ≡ acts.Filed (name_of (record { 0 = c }) (end_of f.segment)) ∷ acts_of (Client c) after
  acts_are after =
      ap (λ pushes. acts_of (Client c) ((Does (acts.Filed (name_of (record { 0 = c }) (end_of f.segment))) ∷ pushes) ++ after)) pushes_so

  -- ---- they take it

  slot_lying : (i : ℕ) → AreLying f.segment (slot_told i)
  slot_lying i = all_filter _ _ rows (rows_lying setup works k c p can)

  pub takes : (i : ℕ) → i < 8 → TakesNext c seq (m.slot i) (slot_told i)
  takes i within = (let z = ready i within in record {
    turns = z.turns;
    waits = λ applied. ap (λ js. ready_blocks js applied) z.jobs;
    applied = ap (λ n. n + 1) z.applied;
    rises = counts_rise (m.slot i).index (length (slot_told i)) z.counted z.rows_low
        (let less = fewer i rows in let small = rows_few setup works k c p can in omega arith) (slot_told i);
  })

  low_enough : (n : ℕ) → IsLow k n → has_long_room n ≡ true
  low_enough n low = le_test n _ (omega (arith, low, few))

  pub takeable : (i : ℕ) → i < 8 → AreTaken setup works (slot_told i)
  takeable i within = record {
    of_logs = rows_of_log f.segment setup works of_log taken.group (slot_told i) (slot_lying i);
    known = rows_known f.segment setup works of_log taken.group (slot_told i) (slot_lying i);
    low = all_pass (λ (row : BlockId × Entry). IsLow k row.1.ver) (λ (row : BlockId × Entry). has_long_room row.1.ver) (λ row low. low_enough row.1.ver low) (slot_told i)
        (all_filter _ _ rows (rows_low setup works k c p can));
  }

  -- ---- the whole way

  abbrev pub m1 : Scene
  m1 = record m { held = with_pieces setup works m.held f ms 0 }

  abbrev turns : HaveTurns m.slot
  turns i within = (ready i within).turns

  abbrev pub m2 : Scene
  m2 = all_told setup works c seq least few_clients has_client managers m1 slot_told turns takes takeable

  -- the client then, and all
  abbrev pub last_part : ClientPart
  last_part = record settled { acked = replicate 8 seq }

  abbrev pub last_scene : Scene
  last_scene = with_client m2 c last_part

  length_stores : (xs : List Member) (place : ℕ) → length (stores_to c f xs place) ≡ length xs
  length_stores [] place = refl
  length_stores (x ∷ xs) place = ap suc (length_stores xs (place + 1))

  length_storeds : (xs : List Member) (place : ℕ) → length (storeds_by c f.segment.name xs place) ≡ length xs
  length_storeds [] place = refl
  length_storeds (x ∷ xs) place = ap suc (length_storeds xs (place + 1))

  settled_room : HasRoom setup works c settled
  settled_room = record {
    asked = le_test p.asked _ (let low = can.asked_low in omega (arith, few));
    req = le_test p.req _ (let low = can.req_low in omega (arith, few));
    seq = le_test seq _ (let low = can.end_low in omega (arith, few));
    attempt = refl;
    again = refl;
  }

  -- how many deliveries
  abbrev pub count : ℕ
  count = length (stores_to c f ms 0) + (length (storeds_by c f.segment.name ms 0) + (8 + (8 + 0)))

  pub count_is : count ≡ 2 * length ms + 16
  count_is = (let a = length_stores ms 0 in let b = length_storeds ms 0 in omega arith)

  -- each slot then
  pub told_at : (i : ℕ) → i < 8 → last_scene.slot i ≡ with_deltas (m.slot i) (record { 0 = c }) seq (slot_told i)
  told_at = all_told_at setup works c seq least few_clients has_client managers m1 slot_told turns takes takeable

  -- what is acted by the last Stored
  abbrev pub done_by : List Effect → List Act
  done_by after = acts_of (Client c) (told ++ after)

  abbrev pub NotedSo : List Effect → Type 0
  NotedSo after =
      IsNoted setup works c m1 has_client f.segment.name (length ms) striped_so.few flies settled (packets_of (Client c) (told ++ after)) (acts_of (Client c) (told ++ after))

  abbrev pub LastSo : List Effect → Type 0
  LastSo after =
      IsLast setup works c m1 has_client f.segment.name (length ms) striped_so.few flies settled (packets_of (Client c) (told ++ after)) (acts_of (Client c) (told ++ after))

  module _ (after : List Effect) (quiet : packets_of (Client c) after ≡ []) (noted_so : NotedSo after) (last_so : LastSo after) where
    abbrev done : List Act
    done = acts_of (Client c) (told ++ after)

    outs_are : map unclocked (packets_of (Client c) (told ++ after)) ++ [] ≡ deltas
    outs_are =
        append-nil (map unclocked (packets_of (Client c) (told ++ after)))
        ∙ deltas_are after
        ∙ ap (λ ps. deltas ++ map unclocked ps) quiet
        ∙ append-nil deltas

    stored_layer : (xs : List Member) → xs ≡ ms
        → Moves setup works (with_client m1 c (flies none_noted)) (storeds_by c f.segment.name xs 0) deltas (done ++ []) (with_client m1 c settled)
    stored_layer [] is = absurd (let some = striped_so.some in let none = ap length is in omega arith)
    stored_layer (x ∷ xs) is =
        subst (λ outs. Moves setup works (with_client m1 c (flies none_noted)) (storeds_by c f.segment.name (x ∷ xs) 0) outs (done ++ []) (with_client m1 c settled)) outs_are
        (storeds_move setup works c m1 has_client f.segment.name (length ms) striped_so.few flies settled (packets_of (Client c) (told ++ after)) done noted_so last_so
        xs x 0 none_noted (subst (AllByRecursion (IsFirst setup)) (sym is) striped_so.each) none_are
        (let long : length (x ∷ xs) ≡ length ms = ap length is in omega arith))

    pub writes_on : Empties setup works count (with_client m c (flies none_noted)) (stores_to c f ms 0) (done ++ []) last_scene
    writes_on =
        subst (λ acts. Empties setup works count (with_client m c (flies none_noted)) (stores_to c f ms 0) acts last_scene) (append-nil (done ++ []))
        (empties_layer setup works _ (with_client m c (flies none_noted)) (with_client m1 c (flies none_noted)) last_scene (stores_to c f ms 0)
        (storeds_by c f.segment.name ms 0) [] ((done ++ []) ++ [])
        (stores_move setup works c f has_client taken ms 0 (with_client m c (flies none_noted)) striped_so.each)
        (empties_layer setup works _ (with_client m1 c (flies none_noted)) (with_client m1 c settled) last_scene (storeds_by c f.segment.name ms 0) deltas (done ++ []) []
        (stored_layer ms refl)
        (empties_layer setup works _ (with_client m1 c settled) (with_client m2 c settled) last_scene deltas (map (ack_by setup works c seq) all_slots) [] []
        (deltas_move setup works c seq least few_clients has_client managers (with_client m1 c settled) slot_told turns takes takeable)
        (empties_layer setup works 0 (with_client m2 c settled) last_scene last_scene (map (ack_by setup works c seq) all_slots) [] [] []
        (acks_move setup works c seq settled m2 settled_room refl has_client managers p.acked can.acked more)
        (empties_none setup works last_scene)))))

-- A client whose get waits is granted a copy: of a block that lies in a log, where it fetches the segment from the members of its group, and reads the copy; or wherever
-- the block lies.
use Rattle.wire_msg.specs.declared.body.Body.TheVariants as body
use Rattle.xfs_base.specs.declared.token.Mode.TheVariants.{Copy}
use Rattle.token_client.specs.Transition.{accepts}
use Rattle.file_plan.specs.declared.block_call.BlockCall.TheVariants.{Get}
use Rattle.quiet_reads.proofs.CopyReads as reading
use Rattle.quiet_reads.proofs.FragmentLayer as fragments
use Rattle.log_owner.specs.Sending.{fetch as send_fetch}
use Rattle.quiet_law.specs.Drained.{IsPlaceReadable, IsReadable}
use Rattle.client_call.specs.Blocks.{value_of}
use Rattle.client_call.specs.Calls.{call_new}
use Rattle.client_call.specs.Reads.{target_of}
use Rattle.client_call.specs.declared.call.Plan.TheVariants.{One}
use Rattle.client_node.specs.Room.{asked_again, open_block}
use Rattle.fragment_store.specs.ShelfState.{held_at}
use Rattle.group_map.specs.Groups.{group_of}
use Rattle.group_map.specs.declared.group.Group.{Group}
use Rattle.group_map.specs.declared.group.Member.{Member}
use Rattle.log_flight.specs.Flights.{no_member}
use Rattle.log_flight.specs.Fragments.{flight_fragment}
use Rattle.log_owner.specs.Opening.{attempt_of}
use Rattle.node_base.specs.Effects.{acts_of, packets_of}
use Rattle.node_base.specs.Known.{knows_meta, knows_entry}
use Rattle.node_base.specs.Maps.{maps_start, knows_prior}
use Rattle.node_base.specs.Nodes.{has_node, peers_of}
use Rattle.node_base.specs.Room.{has_room}
use Rattle.node_base.specs.Setups.{IsSetup}
use Rattle.node_base.specs.Shape.{is_meta, is_name}
use Rattle.node_base.specs.declared.effects.Effect.{Effect}
use Rattle.quiet_flow.specs.Flow.{unclocked}
use Rattle.quiet_gets.proofs.CopyReading.{ReadsCopy, grant_reads}
use Rattle.quiet_gets.proofs.CopyDrained.{IsCopy}
use Rattle.quiet_gets.proofs.Striped.{all_apart, is_cut, servers_there}
use Rattle.quiet_law.proofs.Waiting.{other_held}
use Rattle.quiet_law.specs.Lines.{members_at, members_of}
use Rattle.quiet_nodes.proofs.Begins.{HasRoom}
use Rattle.quiet_nodes.proofs.Moving.{empties_layer, empties_none, moves_none}
use Rattle.quiet_nodes.proofs.Turns.{client_takes}
use Rattle.quiet_nodes.specs.Moves.{Empties, Moves}
use Rattle.quiet_nodes.specs.Scene.{ClientPart, Scene, its_groups, tokens_at, with_client}
use Rattle.quiet_reads.proofs.Evicting.{OrGone, each_or_gone, some_room}
use Rattle.quiet_reads.proofs.FetchLayer.{EachHolds, fetch_to, fetches_move, fetches_sent, fetches_to, founds_by}
use Rattle.quiet_reads.proofs.FragmentComes.{found_body, reading_at, reads_with}
use Rattle.quiet_reads.proofs.FragmentLayer.{AreMembers, CanBeRead, founds_from, fragments_move, once_read, read_copy}
use Rattle.quiet_reads.proofs.PlaceGranted.{place_comes}
use Rattle.quiet_reads.proofs.ReadRounds.{meta_is, round_with}
use Rattle.segment_format.specs.ReadingItems.{answer_of}
use Rattle.segment_format.specs.Text.{text_of}
use Rattle.segment_format.specs.declared.segment.Segment.{Segment}
use Rattle.segment_reading.specs.Reading.{is_block, is_known, segment_found, servers_of}
use Rattle.std.proofs.Common.{List, None, Option, Some, [], ap, append-nil, append_assoc, arith, cond, is_some, length, length-append, map, nat_lt, refl, slice_get, slice_index_or, subst, suc, sym, true, ℕ, ◌&&◌, ◌*◌, ◌++◌, ◌+◌, ◌-◌, ◌<◌, ◌∙◌, ◌∷◌, ◌≡◌}
use Rattle.std.specs.List.{AllByRecursion}
use Rattle.stripe_code.specs.Stripe.{IsCut}
use Rattle.token_client.proofs.Tables.{held_of-put_itself}
use Rattle.token_client.specs.Held.{fetch_from, must_ask}
use Rattle.token_client.specs.Repetitions.{repetition}
use Rattle.token_client.specs.State.{held_of, put_held}
use Rattle.token_client.specs.declared.held.Fetch.{Fetch}
use Rattle.token_client.specs.declared.held.Held.{Held}
use Rattle.version_model.specs.declared.act.Act.{Act}
use Rattle.version_model.specs.declared.work.Work.{Work}
use Rattle.wire_msg.specs.declared.body.Body.{Body}
use Rattle.wire_msg.specs.declared.packet.Packet.{Packet}
use Rattle.xfs_base.proofs.SegmentNames.{same_itself}
use Rattle.xfs_base.specs.Limits.{u32_end}
use Rattle.xfs_base.specs.Segments.{same_name}
use Rattle.xfs_base.specs.declared.block.BlockId.{BlockId}
use Rattle.xfs_base.specs.declared.entry.Entry.{Entry}
use Rattle.xfs_base.specs.declared.entry.Place.{Place}
use Rattle.xfs_base.specs.declared.node.NodeId.TheVariants.{Client, Manager, Server}
use Rattle.xfs_base.specs.declared.node.NodeId.{NodeId}
use Rattle.xfs_base.specs.declared.segment.End.{End}
use Rattle.xfs_base.specs.declared.setup.Setup.{Setup}
use Rattle.xfs_base.specs.declared.token.Stamp.{Stamp}

module _ (setup : Setup) (works : NodeId → List Work) (ok : IsSetup setup) (s base : Scene) (same_held : (v : ℕ) → base.held v ≡ s.held v) (c : ℕ) (p : ClientPart) (b : BlockId)
    (item ver : ℕ) (stamp : Stamp) (its_call : p.call ≡ Some (call_new One (Get b))) (its_item : p.item ≡ Some item) (flight : p.flight ≡ None)
    (ungiven : (held_of p.blocks b).giving ≡ None) (req : ℕ) (accepted : accepts (tokens_at setup works p) b stamp 1 req Copy ≡ true)
    (h : HasRoom setup works c p) (more : nat_lt p.asked u32_end ≡ true) (more_room : has_room (p.asked + 1) ≡ true)
    (its : has_node (peers_of setup) (Client c) ≡ true) (j hop : ℕ) (there : has_node (peers_of setup) (Manager j) ≡ true) (place : Place)
    (readable : IsReadable setup works s b place) where
  abbrev full : Entry
  full = record { ver = ver; hop = hop; place = Some place }

  abbrev full_body : Body
  full_body = body.Grant (record { block = b; stamp = stamp; inc = 1; req = req; mode = Copy; entry = full })

  abbrev full_packet : Packet
  full_packet = record { from = Manager j; to = Client c; clock = 0; body = full_body }

  abbrev segment : Segment
  segment = readable.segment

  abbrev group : Group
  group = readable.group

  abbrev members : List Member
  members = group.members

  abbrev ask : ℕ
  ask = p.asked + 1

  known : group_of (its_groups setup works) place.seg.group ≡ Some group
  known = ap (group_of (its_groups setup works)) (sym readable.group_id) ∙ readable.known

  -- ---- each member is asked for its fragment

  abbrev fetching : Held
  fetching = fetch_from (held_of p.blocks b) stamp ver place

  -- the client but for its call
  abbrev waiting : ClientPart
  waiting = record p { asked = ask; blocks = put_held p.blocks b fetching }

  waiting_is : held_of waiting.blocks b ≡ fetching
  waiting_is = held_of-put_itself b fetching p.blocks

  abbrev fetch : Fetch
  fetch = record { ver = ver; place = place }

  abbrev s1 : Scene
  s1 = with_client base c p

  abbrev s2 : Scene
  s2 = with_client base c (reads_with waiting b item (reading_at (target_of b place) ask (round_with segment group [])))

  abbrev fetches : List Packet
  fetches = fetches_to setup works c ask place.seg.name segment group members

  abbrev founds : List Packet
  founds = founds_by setup works c ask place.seg.name segment group members 0

  unclocked_fetches : (ms : List Member) → map unclocked (fetches_to setup works c ask place.seg.name segment group ms) ≡ fetches_to setup works c ask place.seg.name segment group ms
  unclocked_fetches [] = refl
  unclocked_fetches (m ∷ ms) = ap (λ ps. fetch_to setup works c ask place.seg.name segment group m ∷ ps) (unclocked_fetches ms)

  abbrev sent : List Effect
  sent = map (send_fetch place.seg.name ask) (servers_of group)

  fetches_are : map unclocked (packets_of (Client c) ((sent ++ []) ++ [])) ++ [] ≡ fetches
  fetches_are =
      append-nil (map unclocked (packets_of (Client c) ((sent ++ []) ++ [])))
      ∙ ap (λ es. map unclocked (packets_of (Client c) es)) (append-nil (sent ++ []) ∙ append-nil sent)
      ∙ ap (map unclocked) (fetches_sent setup works c ask place.seg.name segment group members)
      ∙ unclocked_fetches members

  acts_none : (ms : List Member) → acts_of (Client c) ((map (send_fetch place.seg.name ask) (map (λ (m : Member). m.server) ms) ++ []) ++ []) ≡ []
  acts_none [] = refl
  acts_none (m ∷ ms) = acts_none ms

  place_known : knows_entry (maps_start (its_groups setup works)) (Some place) ≡ true
  place_known = ap is_some known

  asks_all : Moves setup works s1 (full_packet ∷ []) fetches [] s2
  asks_all =
      subst (λ outs. Moves setup works s1 (full_packet ∷ []) outs [] s2) fetches_are
      (subst (λ done. Moves setup works s1 (full_packet ∷ []) (map unclocked (packets_of (Client c) ((sent ++ []) ++ [])) ++ []) done s2)
      (append-nil (acts_of (Client c) ((sent ++ []) ++ [])) ∙ acts_none members)
      (client_takes setup works base c p (reads_with waiting b item (reading_at (target_of b place) ask (round_with segment group []))) s2 (Manager j)
      full_body (packets_of (Client c) ((sent ++ []) ++ [])) [] [] (acts_of (Client c) ((sent ++ []) ++ [])) [] its
      (place_comes setup works c p b item its_call its_item stamp req ver hop place group accepted more known j 0 h there readable.of_log place_known)
      (moves_none setup works s2)))

  -- ---- each has its fragment

  cut : IsCut (length members) group.parity
  cut = is_cut setup works ok place.seg.group group known

  there_each : AllByRecursion (λ (m : Member). has_node (peers_of setup) (Server m.server) ≡ true) members
  there_each = servers_there setup works ok place.seg.group group known

  hold_from : (before ms : List Member) → members ≡ before ++ ms → AllByRecursion (λ (m : Member). has_node (peers_of setup) (Server m.server) ≡ true) ms
      → (at : ℕ) → at ≡ length before → EachHolds setup works c ask place.seg.name segment group s2 ms at
  hold_from before [] is there_ms at at_is = tt
  hold_from before (m ∷ ms) is there_ms at at_is = (
    record {
      there = there_ms.0;
      held = subst (λ n. held_at (s2.held m.server) place.seg.name ≡ Some (flight_fragment segment group n)) (sym at_is)
          (ap (λ fs. held_at fs place.seg.name) (same_held m.server)
          ∙ ap (λ (x : Member). held_at (s.held x.server) place.seg.name) (sym (member_at before ms m is)) ∙ readable.held (length before) (within_members before ms m is));
    },
    hold_from (before ++ m ∷ []) ms (is ∙ sym (append_assoc before (m ∷ []) ms)) there_ms.1 (at + 1)
        (ap (λ n. n + 1) at_is ∙ sym (length-append before (m ∷ []))),
  )
    where
      at_place : (xs ys : List Member) (x : Member) → slice_index_or (xs ++ x ∷ ys) (length xs) no_member ≡ x
      at_place [] ys x = refl
      at_place (y ∷ xs) ys x = at_place xs ys x

      member_at : (before ms : List Member) (m : Member) → members ≡ before ++ m ∷ ms → slice_index_or members (length before) no_member ≡ m
      member_at before ms m is = ap (λ xs. slice_index_or xs (length before) no_member) is ∙ at_place before ms m

      within_members : (before ms : List Member) (m : Member) → members ≡ before ++ m ∷ ms → length before < length members
      within_members before ms m is =
          let long : length members ≡ length (before ++ m ∷ ms) = ap length is in
          let both = length-append before (m ∷ ms) in
          omega arith

  tells_all : Moves setup works s2 fetches founds [] s2
  tells_all = fetches_move setup works c ask place.seg.name segment group s2 its readable.of_log members 0 (hold_from [] members refl there_each 0 refl)

  -- ---- the segment is read

  named : segment.name ≡ place.seg.name
  named = readable.name

  are : AreMembers setup works c ask segment group
  are = record {
    servers = there_each;
    apart = all_apart setup works ok place.seg.group group known;
    cut = cut;
    of_log = λ at. ap is_meta (meta_is segment group at) ∙ ap is_name named ∙ readable.of_log;
    known = λ at. ap (knows_meta (maps_start (its_groups setup works))) (meta_is segment group at)
        ∙ ap (λ o. is_some o && knows_prior (maps_start (its_groups setup works)) segment.prior) readable.known
        ∙ readable.prior;
  }

  room_with : (q : ClientPart) → q.asked ≡ ask → q.req ≡ p.req → q.end ≡ p.end → q.flight ≡ None
      → has_room (asked_again (tokens_at setup works q) (open_block q.call)) ≡ true → HasRoom setup works c q
  room_with q asked_is req_is end_is none again = record {
    asked = ap has_room asked_is ∙ more_room;
    req = ap has_room req_is ∙ h.req;
    seq = ap (λ (e : End). has_room e.seq) end_is ∙ h.seq;
    attempt = ap (λ f. has_room (attempt_of f)) none;
    again = again;
  }

  found : segment_found (target_of b place) (its_groups setup works) (answer_of (text_of segment)) ≡ Some segment
  found =
      ap (segment_found (target_of b place) (its_groups setup works)) readable.text
      ∙ ap (λ t. cond t (Some segment) None)
      (ap (λ t. t && (is_known (its_groups setup works) segment.prior && is_block b (slice_get segment.items place.item)))
      (ap (same_name place.seg.name) named ∙ same_itself place.seg.name)
      ∙ ap (λ t. t && is_block b (slice_get segment.items place.item)) readable.prior
      ∙ readable.item)

  can : CanBeRead setup works c ask segment group base waiting b item place fetch are
  can = record {
    there = its;
    bytes = readable.bytes;
    name = named;
    found = found;
    its_fetch = ap (λ (g : Held). g.fetch) waiting_is;
    no_want = ap (λ (g : Held). g.want) waiting_is;
    asks = ap (λ g. must_ask g Copy) waiting_is;
    nothing = ap (λ (g : Held). g.mode) waiting_is;
    room = λ r. room_with (reads_with waiting b item r) refl refl refl flight (ap (λ (g : Held). has_room (repetition g.want)) waiting_is);
  }

  abbrev copy : Held
  copy = read_copy setup works c ask segment group base waiting b item place fetch are

  abbrev q : ClientPart
  q = once_read setup works c ask segment group base waiting b item place fetch are

  abbrev done : List Act
  done = fragments.done setup works c ask segment group base waiting b item place fetch are

  abbrev u : Scene
  u = with_client base c q

  abbrev count : ℕ
  count = length members - group.parity

  reads_all : Moves setup works s2 founds [] (done ++ []) u
  reads_all =
      subst (λ packets. Moves setup works s2 packets [] (done ++ []) u) (founds_are members 0)
      (fragments_move setup works c ask segment group base waiting b item place fetch are can (room_with q refl refl refl flight refl) (count - 1) [] members refl
      (let least = cut.least in omega arith) 0 refl)
    where
      founds_are : (ms : List Member) (at : ℕ) → founds_from setup works c ask segment group ms at ≡ founds_by setup works c ask place.seg.name segment group ms at
      founds_are [] at = refl
      founds_are (m ∷ ms) at =
          ap (λ packets. record { from = Server m.server; to = Client c; clock = 0; body = found_body ask (flight_fragment segment group at) } ∷ packets) (founds_are ms (at + 1))

  fetches_long : (ms : List Member) → length (fetches_to setup works c ask place.seg.name segment group ms) ≡ length ms
  fetches_long [] = refl
  fetches_long (m ∷ ms) = ap suc (fetches_long ms)

  founds_long : (ms : List Member) (at : ℕ) → length (founds_by setup works c ask place.seg.name segment group ms at) ≡ length ms
  founds_long [] at = refl
  founds_long (m ∷ ms) at = ap suc (founds_long ms (at + 1))

  empties : Empties setup works (1 + (length fetches + (length founds + 0))) s1 (full_packet ∷ []) ((done ++ []) ++ []) u
  empties =
      empties_layer setup works (length fetches + (length founds + 0)) s1 s2 u (full_packet ∷ []) fetches [] ((done ++ []) ++ []) asks_all
      (empties_layer setup works (length founds + 0) s2 s2 u fetches founds [] ((done ++ []) ++ []) tells_all
      (empties_layer setup works 0 s2 u u founds [] (done ++ []) [] reads_all (empties_none setup works u)))

  -- ---- what has changed

  abbrev last_blocks : List (BlockId × Held)
  last_blocks = (reading.known setup works c waiting b item copy).blocks

  others_or_gone : (x : BlockId) → (x ≡ b → ⊥) → OrGone (held_of p.blocks x) (held_of last_blocks x)
  others_or_gone x differs =
      subst (λ g. OrGone g (held_of last_blocks x)) (other_held b copy waiting.blocks x differs ∙ other_held b fetching p.blocks x differs)
      (each_or_gone _ (some_room setup.cache) (record { blocks = reading.copy_blocks setup works c waiting b item copy; cached = p.cached }) b x)

  its_copy : IsCopy copy ver stamp
  its_copy = record {
    mode = refl;
    version = refl;
    settled = refl;
    its_stamp = ap (λ (g : Held). g.stamp) waiting_is;
    want = ap (λ (g : Held). g.want) waiting_is;
    fetch = refl;
    giving = ap (λ (g : Held). g.giving) waiting_is ∙ ungiven;
  }

  place_reads_so : ReadsCopy setup works base c p b item ver stamp full_packet (1 + 2 * length members)
  place_reads_so = record {
    deliveries = 1 + (length fetches + (length founds + 0));
    few = let one = fetches_long members in let two = founds_long members 0 in omega arith;
    asked = ask;
    asks_few = omega arith;
    blocks = last_blocks;
    cached = q.cached;
    copy = copy;
    value = value_of copy;
    reads = empties;
    last_is = reading.known_itself setup works c waiting b item copy;
    others_as = others_or_gone;
    is_copy = its_copy;
  }

  pub place_reads : ReadsCopy setup works base c p b item ver stamp full_packet (1 + 2 * members_at setup works (Some place))
  place_reads = subst (λ o. ReadsCopy setup works base c p b item ver stamp full_packet (1 + 2 * members_of setup works o)) (sym known) place_reads_so

-- ---- wherever the block lies

module _ (setup : Setup) (works : NodeId → List Work) where
  -- the grant of a copy, by manager j, under this entry of the index
  abbrev pub grant_of : ℕ → BlockId → Stamp → ℕ → ℕ → Entry → Packet
  grant_of c b stamp req j entry = record {
    from = Manager j;
    to = Client c;
    clock = 0;
    body = body.Grant (record { block = b; stamp = stamp; inc = 1; req = req; mode = Copy; entry = entry });
  }

  module _ (ok : IsSetup setup) (s base : Scene) (same_held : (v : ℕ) → base.held v ≡ s.held v) (c : ℕ) (p : ClientPart) (b : BlockId) (item ver : ℕ) (stamp : Stamp)
      (its_call : p.call ≡ Some (call_new One (Get b))) (its_item : p.item ≡ Some item) (flight : p.flight ≡ None) (ungiven : (held_of p.blocks b).giving ≡ None) (req : ℕ)
      (accepted : accepts (tokens_at setup works p) b stamp 1 req Copy ≡ true) (h : HasRoom setup works c p) (more : nat_lt p.asked u32_end ≡ true)
      (more_room : has_room (p.asked + 1) ≡ true) (its : has_node (peers_of setup) (Client c) ≡ true) (j hop : ℕ) (there : has_node (peers_of setup) (Manager j) ≡ true) where
    pub granted_reads : (o : Option Place) → IsPlaceReadable setup works s b o
        → ReadsCopy setup works base c p b item ver stamp (grant_of c b stamp req j (record { ver = ver; hop = hop; place = o })) (1 + 2 * members_at setup works o)
    granted_reads None readable = grant_reads setup works base c p b item ver stamp its_call its_item ungiven req accepted h its j hop there
    granted_reads (Some place) readable =
        place_reads setup works ok s base same_held c p b item ver stamp its_call its_item flight ungiven req accepted h more more_room its j hop there place readable

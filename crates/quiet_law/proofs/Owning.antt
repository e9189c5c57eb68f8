-- A client asks for a block that nobody else is believed to hold, is granted it, and writes it: what it needs for that, and what is so of all once it is written.
use Rattle.std.proofs.lemmas.Bool.Decides.{nat_tests}
use Rattle.std.proofs.Common.{◌≡◌, ◌⊎◌, inl, inr, slice_get, ℕ, suc, ◌+◌, ◌<◌, ◌≤◌, ◌^◌, ◌==◌, ◌&&◌, true, false, cond, nat_lt, nat_le, List, [], length, replicate, slice_index, Option, Some, None, is_none, is_some, refl, sym, ap, subst, ◌∙◌, arith}
use Rattle.client_call.specs.Fitting.{block_fits, put_fits, value_fits}
use Rattle.delta_index.specs.Index.{entry_of}
use Rattle.group_map.specs.Groups.{group_of}
use Rattle.log_flight.specs.declared.dirty.Change.{Change}
use Rattle.node_base.specs.Known.{knows_entry}
use Rattle.node_base.specs.Maps.{maps_start}
use Rattle.node_base.specs.Nodes.{has_node, peers_of}
use Rattle.node_base.specs.Room.{has_long_room, has_room}
use Rattle.node_base.specs.Shape.{is_entry}
use Rattle.slot_beliefs.specs.Beliefs.{holder, beliefs_own, share_of}
use Rattle.slot_beliefs.specs.Recalls.{applied_of, stamp}
use Rattle.token_client.proofs.Tables.{held_of-put_itself}
use Rattle.token_client.specs.declared.held.Held.{Held}
use Rattle.token_client.specs.Held.{held_ask as asked_for, is_answer, is_dirty, may_write, held_own, held_write}
use Rattle.token_client.specs.Repetitions.{repetition}
use Rattle.token_client.specs.State.{held_of, put_held}
use Rattle.token_client.specs.Transition.{accepts}
use Rattle.token_manager.specs.SlotState.{SlotState}
use Rattle.token_manager.specs.Transition.{entry_at, has_turns, is_dropped, want_of}
use Rattle.version_model.specs.declared.work.Work.{Work}
use Rattle.version_model.specs.declared.work.Work.TheVariants as work
use Rattle.world_base.specs.Cluster.{HasNode}
use Rattle.xfs_base.proofs.Booleans.{and_first, and_second}
use Rattle.xfs_base.proofs.BlockOrder.{same_block_exact}
use Rattle.xfs_base.specs.Blocks.{same_block, slot_of}
use Rattle.xfs_base.specs.declared.block.BlockId.{BlockId}
use Rattle.xfs_base.specs.declared.entry.Entry.{Entry}
use Rattle.xfs_base.specs.declared.entry.Place.{Place}
use Rattle.xfs_base.specs.declared.node.NodeId.{NodeId}
use Rattle.xfs_base.specs.declared.node.NodeId.TheVariants.{Client, Manager}
use Rattle.xfs_base.specs.declared.setup.Setup.{Setup}
use Rattle.xfs_base.specs.declared.token.Mode.TheVariants.{Own}
use Rattle.xfs_base.specs.declared.token.Stamp.{Stamp}
use Rattle.xfs_base.specs.Limits.{u64_end}
use Rattle.xfs_base.specs.Modes.{is_own}
use Rattle.xfs_base.specs.Stamps.{is_later}
use Rattle.quiet_law.specs.Drained.{AreSquare, Drained, IsCalm, IsIdle, IsLow, IsPlaceReadable, IsQuietBlock, mode_number, most_steps}
use Rattle.quiet_law.specs.Lines.{IsNext, Names, holders}
use Rattle.quiet_script.specs.Quiet.{is_client, is_in_range}
use Rattle.quiet_nodes.specs.Scene.{ClientPart, Scene, its_groups, manager_of_slot, tokens_at}
use Rattle.quiet_nodes.proofs.Begins.{HasRoom}
use Rattle.quiet_law.proofs.Believing.{none_else, none_then, other_share, owned_alone, owned_believed, owner_share}
use Rattle.quiet_law.proofs.Changing.{ButForTwo}
use Rattle.quiet_nodes.proofs.Granting.{owning}
use Rattle.quiet_law.proofs.Keeping.{low_room, lower, quiet_more, room_of}
use Rattle.quiet_law.proofs.PutAsking as asking
use Rattle.quiet_law.proofs.Ordered.{ordered_owned}
use Rattle.quiet_law.proofs.Waiting.{not_the_block, other_held, waits_put}
use Rattle.quiet_law.proofs.Counters.{below_long, long_room, low_next, low_room_next}
use Rattle.quiet_nodes.proofs.Rooms.{later, number_within, promised, slot_within}
use Rattle.quiet_nodes.proofs.Tests.{both, le_test, lt_test, not_lt_test, other_test, same_test}
use Rattle.quiet_nodes.proofs.Puts.{put_part}
use Rattle.quiet_nodes.specs.Scene.{with_client, with_slot}
use Rattle.quiet_law.specs.Drained.{IsWritable, WaitsForDirty}
use Rattle.quiet_law.proofs.Spelling.{inserted_fit, put_writable}
use Rattle.std.specs.List.{AllByRecursion}

module _ (setup : Setup) (works : NodeId → List Work) (k : ℕ) (s : Scene) (c : ℕ) (d : Drained setup works k s) (managers : 1 ≤ setup.managers) (b : BlockId)
    (value : Option (List ℕ)) (few : k < most_steps) (next : IsNext setup works s c (work.Bput c b value)) (range : is_in_range setup (work.Bput c b value) ≡ true)
    (asks : is_own (held_of (s.client c).blocks b).mode ≡ false) (nobody : holders setup works s c b ≡ []) where
  least : 1 ≤ c
  least = next.client.0

  most : c ≤ setup.clients
  most = next.client.1

  abbrev pub i : ℕ
  i = slot_of b.ino.0

  abbrev pub j : ℕ
  j = manager_of_slot setup works i

  abbrev pub p : ClientPart
  p = s.client c

  abbrev pub z : SlotState
  z = s.slot i

  abbrev pub h : Held
  h = held_of p.blocks b

  pub within : i < 8
  within = slot_within b.ino.0

  pub idle : IsIdle k p
  idle = d.clients c least most

  pub calm : IsCalm setup k z
  calm = d.slots i within

  pub quiet : IsQuietBlock k h
  quiet = idle.blocks b

  pub square : AreSquare setup works c i p z
  square = d.square c i least most within

  pub has_test : has_node (peers_of setup) (Client c) ≡ true
  has_test = ap (λ t. t && nat_le c setup.clients) (le_test 1 c least) ∙ le_test c setup.clients most

  there : HasNode setup (Manager j)
  there = number_within setup.managers i managers

  pub there_test : has_node (peers_of setup) (Manager j) ≡ true
  there_test = ap (λ t. t && nat_le j setup.managers) (le_test 1 j there.0) ∙ le_test j setup.managers there.1

  -- ---- it asks, and is granted it

  abbrev pub asked : ClientPart
  asked = asking.asked setup works k s c d few b value next asks

  all_applied : nat_lt (applied_of z.applied c) p.end.seq ≡ false
  all_applied = let same = square.applied in not_lt_test (applied_of z.applied c) p.end.seq (omega arith)

  pub taken : is_dropped z (want_of c b 1 (p.req + 1) 0 Own) p.end.seq ≡ false
  taken = rw (calm.jobs, all_applied) refl

  pub turns : has_turns z.turn 1 ≡ true
  turns = lt_test (z.turn + 1) (2 ^ 64) (let low = below_long k z.turn few calm.turn_low in omega arith)

  -- ---- it writes

  abbrev pub its_stamp : Stamp
  its_stamp = stamp z.epoch (z.turn + 1)

  abbrev pub entry : Entry
  entry = entry_at z b

  abbrev pub first_held : Held
  first_held = asked_for h (p.req + 1) Own

  abbrev pub first_blocks : List (BlockId × Held)
  first_blocks = put_held p.blocks b first_held

  pub first_is : held_of first_blocks b ≡ first_held
  first_is = held_of-put_itself b first_held p.blocks

  pub low_entry : IsLow k entry.ver
  low_entry = calm.versions_low b

  pub asked_room : HasRoom setup works c asked
  asked_room = record {
    asked = room_of p.asked (low_room k p.asked few idle.asked_low);
    req = room_of (p.req + 1) (low_room_next k p.req few idle.req_low);
    seq = room_of p.end.seq (low_room k p.end.seq few idle.end_low);
    attempt = rw idle.flight refl;
    again = ap (λ (x : Held). has_room (repetition x.want)) first_is;
  }

  pub later_now : is_later its_stamp h.stamp ≡ true
  later_now =
      ap (λ e. is_later (record { epoch = e; turn = z.turn + 1 }) h.stamp) calm.epoch
      ∙ later h.stamp.epoch z.turn h.stamp.turn (square.below b refl).0 (square.below b refl).1

  pub answers_it : is_answer first_held its_stamp (p.req + 1) Own ≡ true
  answers_it = ap (λ t. (t && true) && is_later its_stamp h.stamp) (same_test (p.req + 1)) ∙ later_now

  pub accepted : accepts (tokens_at setup works asked) b its_stamp 1 (p.req + 1) Own ≡ true
  accepted =
      both (slice_index (replicate 8 1) i == z.epoch) (is_answer (held_of first_blocks b) its_stamp (p.req + 1) Own)
      (ap (λ n. n == z.epoch) (promised i within) ∙ ap (λ n. 1 == n) calm.epoch)
      (ap (λ x. is_answer x its_stamp (p.req + 1) Own) first_is ∙ answers_it)

  pub place_of_log : (o : Option Place) → IsPlaceReadable setup works s b o → is_entry o ≡ true
  place_of_log None r = refl
  place_of_log (Some place) r = r.of_log

  pub place_known : (o : Option Place) → IsPlaceReadable setup works s b o → knows_entry (maps_start (its_groups setup works)) o ≡ true
  place_known None r = refl
  place_known (Some place) r = ap is_some (ap (group_of (its_groups setup works)) (sym r.group_id) ∙ r.known)

  pub its_place : IsPlaceReadable setup works s b entry.place
  its_place = d.legible i within b refl

  pub more : may_write (held_own (held_of first_blocks b) its_stamp entry.ver) ≡ true
  more =
      ap (λ x. may_write (held_own x its_stamp entry.ver)) first_is
      ∙ ap (λ g. (true && is_none g) && nat_lt entry.ver u64_end) quiet.giving
      ∙ lt_test entry.ver u64_end (let low = below_long k entry.ver few low_entry in omega arith)

  pub in_range : (block_fits b && value_fits value) ≡ true
  in_range = and_second (is_client setup c) (block_fits b && value_fits value) range

  pub fits : put_fits b (entry.ver + 1) value ≡ true
  unfolding put_fits
  fits =
      ap (λ t. t && (nat_lt (entry.ver + 1) (2 ^ 64) && value_fits value)) (and_first (block_fits b) (value_fits value) in_range)
      ∙ ap (λ t. t && value_fits value) (lt_test (entry.ver + 1) (2 ^ 64) (let low = below_long k entry.ver few low_entry in omega arith))
      ∙ and_second (block_fits b) (value_fits value) in_range

  abbrev pub second : ClientPart
  second = owning setup works c asked b value (p.begun + 1) refl refl its_stamp (p.req + 1) entry

  abbrev pub change : Change
  change = record { entry = record { ver = (held_of second.blocks b).ver + 1; hop = 0; place = None }; value = value }

  pub long : has_long_room entry.ver ≡ true
  long = long_room k entry.ver few low_entry

  pub its_log : is_entry entry.place ≡ true
  its_log = place_of_log entry.place its_place

  pub its_known : knows_entry (maps_start (its_groups setup works)) entry.place ≡ true
  its_known = place_known entry.place its_place

  pub none_given : is_none (held_of first_blocks b).giving ≡ true
  none_given = ap (λ (x : Held). is_none x.giving) first_is ∙ ap is_none quiet.giving

  -- ---- what has changed

  -- the client once it is written and the item is answered
  abbrev pub q : ClientPart
  q = record (put_part second b value) { item = None }

  abbrev pub z_then : SlotState
  z_then = record z { beliefs = beliefs_own z.beliefs (holder b c); turn = z.turn + 1 }

  abbrev pub u : Scene
  u = with_client (with_slot s i z_then) c q

  abbrev pub owns_now : Held
  owns_now = held_own (held_of first_blocks b) its_stamp entry.ver

  abbrev pub second_blocks : List (BlockId × Held)
  second_blocks = put_held first_blocks b owns_now

  abbrev pub writes_now : Held
  writes_now = held_write (held_of second_blocks b) value

  abbrev pub last_blocks : List (BlockId × Held)
  last_blocks = put_held second_blocks b writes_now

  abbrev pub held_then : Held
  held_then = held_write (held_own first_held its_stamp entry.ver) value

  pub last_is : held_of last_blocks b ≡ held_then
  last_is =
      held_of-put_itself b writes_now second_blocks
      ∙ ap (λ x. held_write x value) (held_of-put_itself b owns_now first_blocks ∙ ap (λ x. held_own x its_stamp entry.ver) first_is)

  pub others_as : (x : BlockId) → (x ≡ b → ⊥) → held_of last_blocks x ≡ held_of p.blocks x
  others_as x differs = other_held b writes_now second_blocks x differs ∙ other_held b owns_now first_blocks x differs ∙ other_held b first_held p.blocks x differs

  pub each_held : (P : BlockId → Held → Type 0) → P b held_then → ((x : BlockId) → (x ≡ b → ⊥) → P x (held_of p.blocks x)) → (x : BlockId)
      → P x (held_of last_blocks x)
  each_held P here other x =
      elim (same_block b x) as (λ t. same_block b x ≡ t → P x (held_of last_blocks x)) [
        | true ↦ λ same. subst (λ y. P y (held_of last_blocks y)) (sym (same_block_exact b x same)) (subst (P b) (sym last_is) here)
        | false ↦ λ apart. subst (P x) (sym (others_as x (not_the_block x b apart))) (other x (not_the_block x b apart))
      ] refl

  pub quiet_then : (x : BlockId) → IsQuietBlock (suc k) (held_of last_blocks x)
  quiet_then = each_held (λ x g. IsQuietBlock (suc k) g)
      (record { want = refl; fetch = refl; giving = quiet.giving; owned = λ dirty. refl; low = low_next k entry.ver low_entry; settled_low = omega arith })
      (λ x differs. quiet_more k (held_of p.blocks x) (idle.blocks x))

  pub waits_then : WaitsForDirty last_blocks q.dirty
  waits_then = waits_put b change p.blocks last_blocks others_as (sym (ap (λ (x : Held). x.ver) (held_of-put_itself b writes_now second_blocks)))
      (ap is_dirty last_is ∙ lt_test entry.ver (entry.ver + 1) (omega arith)) p.dirty idle.waits

  pub fits_then : AllByRecursion IsWritable q.dirty
  fits_then =
      inserted_fit b change p.dirty
      (subst (λ (x : Held). IsWritable (b, record { entry = record { ver = x.ver + 1; hop = 0; place = None }; value = value }))
      (sym (held_of-put_itself b owns_now first_blocks))
      (put_writable b (entry.ver + 1) value (and_first (block_fits b) (value_fits value) in_range) (and_second (block_fits b) (value_fits value) in_range)
      (let low = below_long k entry.ver few low_entry in omega arith))) idle.fits

  pub calm_then : IsCalm setup (suc k) z_then
  calm_then = record {
    epoch = calm.epoch;
    jobs = calm.jobs;
    alone = owned_alone z.beliefs b c nobody calm.alone;
    believed = owned_believed z.beliefs b c (λ o. (1 ≤ o.client) × (o.client ≤ setup.clients)) calm.believed (least, most);
    ordered = ordered_owned z.beliefs (holder b c) calm.ordered;
    applied = calm.applied;
    counted = calm.counted;
    rows_low = lower k (length z.index.rows) calm.rows_low;
    turn_low = low_next k z.turn calm.turn_low;
    versions_low = λ x. lower k (entry_of z.index.rows x).ver (calm.versions_low x);
  }

  pub up : (n m : ℕ) → n ≤ m → n ≤ m + 1
  up n m h = omega arith

  pub square_then : AreSquare setup works c i q z_then
  square_then = record {
    acked = square.acked;
    applied = square.applied;
    below = each_held (λ x g. slot_of x.ino.0 ≡ i → (g.stamp.epoch ≤ 1) × (g.stamp.turn ≤ z.turn + 1))
        (λ of_slot. ((let one = calm.epoch in omega arith), omega arith))
        (λ x differs of_slot. ((square.below x of_slot).0, up (held_of p.blocks x).stamp.turn z.turn (square.below x of_slot).1));
    covered = each_held (λ x g. slot_of x.ino.0 ≡ i → mode_number g.mode ≤ share_of z_then.beliefs x c)
        (λ of_slot. subst (λ n. 2 ≤ n) (sym (owner_share z.beliefs b c)) (omega arith))
        (λ x differs of_slot. subst (λ n. mode_number (held_of p.blocks x).mode ≤ n) (sym (other_share z.beliefs b c x c differs)) (square.covered x of_slot));
  }

  pub elsewhere : (m : ℕ) → (m ≡ i → ⊥) → m < 8 → AreSquare setup works c m q (s.slot m)
  elsewhere m other inside = let sq = d.square c m least most inside in record {
    acked = sq.acked;
    applied = sq.applied;
    below = each_held (λ x g. slot_of x.ino.0 ≡ m → (g.stamp.epoch ≤ 1) × (g.stamp.turn ≤ (s.slot m).turn)) (λ of_slot. absurd (other (sym of_slot)))
        (λ x differs. sq.below x);
    covered = each_held (λ x g. slot_of x.ino.0 ≡ m → mode_number g.mode ≤ share_of (s.slot m).beliefs x c) (λ of_slot. absurd (other (sym of_slot)))
        (λ x differs. sq.covered x);
  }

  pub none_of : (m n : ℕ) → m ≤ n → n ≡ 0 → (r : ℕ) → m ≤ r
  none_of m n less none r = omega arith

  pub theirs : (e : ℕ) → (e ≡ c → ⊥) → 1 ≤ e → e ≤ setup.clients → AreSquare setup works e i (s.client e) z_then
  theirs e other l h = let sq = d.square e i l h within in record {
    acked = sq.acked;
    applied = sq.applied;
    below = λ x of_slot. ((sq.below x of_slot).0, up (held_of (s.client e).blocks x).stamp.turn z.turn (sq.below x of_slot).1);
    covered = λ x of_slot.
        elim (same_block b x) as (λ t. same_block b x ≡ t → mode_number (held_of (s.client e).blocks x).mode ≤ share_of z_then.beliefs x e) [
          | true ↦ λ same. none_of (mode_number (held_of (s.client e).blocks x).mode) (share_of z.beliefs x e) (sq.covered x of_slot)
              (subst (λ y. share_of z.beliefs y e ≡ 0) (sym (same_block_exact b x same)) (none_else z.beliefs b c nobody e other)) (share_of z_then.beliefs x e)
          | false ↦ λ apart. subst (λ n. mode_number (held_of (s.client e).blocks x).mode ≤ n)
              (sym (other_share z.beliefs b c x e (not_the_block x b apart))) (sq.covered x of_slot)
        ] refl;
  }

  pub but : ButForTwo setup works k s u c i q z_then d
  but = record {
    clients = λ e differs. ap (λ t. cond t q (s.client e)) (other_test e c differs);
    client = ap (λ t. cond t q (s.client c)) (same_test c);
    slots = λ m differs. ap (λ t. cond t z_then (s.slot m)) (other_test m i differs);
    slot = ap (λ t. cond t z_then (s.slot i)) (same_test i);
    held = λ v. refl;
    rows = refl;
  }

  pub believed_then : (m : ℕ) → m < 8 → (x : BlockId) (e : ℕ) → 1 ≤ share_of (u.slot m).beliefs x e
      → (1 ≤ share_of (s.slot m).beliefs x e) ⊎ ((e ≡ c) × Names (slice_get (works (Client c)) p.begun) x)
  believed_then m inside x e has =
      elim (m == i) as (λ t. (m == i) ≡ t → (1 ≤ share_of (s.slot m).beliefs x e) ⊎ ((e ≡ c) × Names (slice_get (works (Client c)) p.begun) x)) [
        | true ↦ λ same. here (equal m i same)
        | false ↦ λ other. inl (subst (λ (y : SlotState). 1 ≤ share_of y.beliefs x e) (but.slots m (apart m i other)) has)
      ] refl
    where
      equal : (n o : ℕ) → (n == o) ≡ true → n ≡ o
      equal n o h = grind (arith, nat_tests)

      apart : (n o : ℕ) → (n == o) ≡ false → n ≡ o → ⊥
      apart n o h same = grind (arith, nat_tests)

      its_share : m ≡ i → 1 ≤ share_of z_then.beliefs x e
      its_share is = subst (λ (y : SlotState). 1 ≤ share_of y.beliefs x e) (ap u.slot is ∙ but.slot) has

      here : m ≡ i → (1 ≤ share_of (s.slot m).beliefs x e) ⊎ ((e ≡ c) × Names (slice_get (works (Client c)) p.begun) x)
      here is =
          elim (same_block b x) as (λ t. same_block b x ≡ t → (1 ≤ share_of (s.slot m).beliefs x e) ⊎ ((e ≡ c) × Names (slice_get (works (Client c)) p.begun) x)) [
            | true ↦ λ same. inr (only_asker (same_block_exact b x same), subst (λ o. Names o x) (sym next.next) (sym (same_block_exact b x same)))
            | false ↦ λ apart_now. inl (subst (λ n. 1 ≤ share_of (s.slot n).beliefs x e) (sym is)
                (subst (λ n. 1 ≤ n) (other_share z.beliefs b c x e (not_the_block x b apart_now)) (its_share is)))
          ] refl
        where
          only_asker : x ≡ b → e ≡ c
          only_asker is_b =
              elim (e == c) as (λ t. (e == c) ≡ t → e ≡ c) [
                | true ↦ λ same. equal e c same
                | false ↦ λ other. absurd (let none = none_then z.beliefs b c nobody e (apart e c other) in
                    let has_it = subst (λ y. 1 ≤ share_of z_then.beliefs y e) is_b (its_share is) in omega arith)
              ] refl

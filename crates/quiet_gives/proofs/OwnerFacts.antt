-- A client wants a block that another holds, which has not settled it: what is so of that owner, its segment and the block's slot.
use Rattle.std.proofs.Common.{◌≡◌, ℕ, suc, ◌+◌, ◌<◌, ◌≤◌, ◌^◌, ◌==◌, ◌&&◌, not, Bool, true, false, cond, nat_lt, nat_le, List, [], ◌∷◌, drop, length, slice_index, Some, None, refl, sym, ap, ◌∙◌, arith}
use Rattle.std.proofs.lemmas.Bool.{false≢true}
use Rattle.std.specs.List.{list_any}
use Rattle.client_log.specs.Transition.{prior_from}
use Rattle.client_serving.specs.Grants.{is_stamp}
use Rattle.log_flight.specs.declared.dirty.Change.{Change}
use Rattle.log_flight.specs.Flights.{FlightState}
use Rattle.node_base.specs.Nodes.{has_node, peers_of}
use Rattle.node_base.specs.Setups.{IsSetup}
use Rattle.segment_reading.specs.Reading.{is_known}
use Rattle.slot_beliefs.specs.Beliefs.{others}
use Rattle.slot_beliefs.specs.declared.job.Wanted.{Wanted}
use Rattle.slot_beliefs.specs.Recalls.{applied_of}
use Rattle.token_client.proofs.Tables.{held_of-put_itself, put_same}
use Rattle.token_client.specs.declared.held.Held.{Held}
use Rattle.token_client.specs.Held.{is_dirty}
use Rattle.token_client.specs.State.{held_of, put_held}
use Rattle.token_client.specs.Transition.{is_promised}
use Rattle.token_manager.specs.SlotState.{SlotState}
use Rattle.token_manager.specs.Transition.{has_turns, is_dropped}
use Rattle.version_model.specs.declared.work.Work.{Work}
use Rattle.xfs_base.specs.Blocks.{same_block, slot_of}
use Rattle.xfs_base.specs.declared.block.BlockId.{BlockId}
use Rattle.xfs_base.specs.declared.entry.Entry.{Entry}
use Rattle.xfs_base.specs.declared.node.NodeId.{NodeId}
use Rattle.xfs_base.specs.declared.node.NodeId.TheVariants.{Client, Manager}
use Rattle.xfs_base.specs.declared.setup.Setup.{Setup}
use Rattle.xfs_base.specs.declared.token.Mode.{Mode}
use Rattle.xfs_base.specs.declared.token.Mode.TheVariants.{Copy, Nothing, Own}
use Rattle.xfs_base.specs.declared.token.Stamp.{Stamp}
use Rattle.xfs_base.specs.Limits.{u32_end}
use Rattle.xfs_base.specs.Modes.{is_nothing, is_own}
use Rattle.xfs_base.specs.Stamps.{is_later}
use Rattle.quiet_law.specs.Drained.{AreSquare, Drained, IsCalm, IsIdle, IsQuietBlock, most_steps}
use Rattle.quiet_law.proofs.Counters.{calm_turns}
use Rattle.quiet_law.proofs.Keeping.{idle_room}
use Rattle.quiet_law.proofs.Settled.{AreNewest}
use Rattle.quiet_law.proofs.Synced as synced
use Rattle.quiet_law.proofs.Synced.{CanSeal, idle_can}
use Rattle.quiet_law.proofs.Writing as writing
use Rattle.quiet_law.proofs.Writing.{IsReady}
use Rattle.quiet_nodes.specs.Scene.{ClientPart, Scene, its_groups, manager_of_slot, tokens_at}
use Rattle.quiet_nodes.proofs.Begins.{HasRoom}
use Rattle.quiet_nodes.proofs.Rooms.{later, number_within, promised, slot_within}
use Rattle.quiet_nodes.proofs.Tests.{and_none, le_test, lt_test, not_lt_test, other_test}
use Rattle.quiet_gives.proofs.Recalling as recalling
use Rattle.quiet_gives.proofs.Recalling.{IsRecalled}
use Rattle.quiet_gives.proofs.Recalls as recalls

some_of : {X : Type 0} (test : X → Bool) (xs : List X) → list_any test xs ≡ true → 0 < length xs
some_of test [] has = absurd (false≢true has)
some_of test (x ∷ xs) has = omega arith

held_own : (m : Mode) → is_own m ≡ true → is_nothing m ≡ false
held_own Nothing is = absurd (false≢true is)
held_own Copy is = refl
held_own Own is = refl

module _ (setup : Setup) (works : NodeId → List Work) (k : ℕ) (s : Scene) (c o : ℕ) (b : BlockId) (mode : Mode) where
  abbrev pub i : ℕ
  i = slot_of b.ino.0

  abbrev pub j : ℕ
  j = manager_of_slot setup works i

  abbrev pub z : SlotState
  z = s.slot i

  -- the owner
  abbrev pub p : ClientPart
  p = s.client o

  -- One client wants the block, and another holds it that has not settled it; nobody else has to give way.
  pub record IsOwners : Type 0 where
    pub drained : Drained setup works k s
    pub ok : IsSetup setup
    pub few : suc k < most_steps
    pub asker : (1 ≤ c) × (c ≤ setup.clients)
    pub owner : (1 ≤ o) × (o ≤ setup.clients)
    pub differ : o ≡ c → ⊥
    pub dirty : is_dirty (held_of (s.client o).blocks b) ≡ true
    pub wants : is_nothing mode ≡ false
    pub listed : others (s.slot (slot_of b.ino.0)).beliefs b c (not (is_own mode)) ≡ o ∷ []

  abbrev pub keep : Bool
  keep = not (is_own mode)

  abbrev pub want : Wanted
  want = recalls.its_want c 1 ((s.client c).req + 1) (s.client c).end.seq b mode

  abbrev pub st : Stamp
  st = recalls.its_stamp c 1 ((s.client c).req + 1) (s.client c).end.seq b mode z o

  -- the slot while the want waits
  abbrev pub waiting : SlotState
  waiting = recalls.waiting c 1 ((s.client c).req + 1) (s.client c).end.seq b mode z o

  abbrev pub h : Held
  h = held_of p.blocks b

  module _ (g : IsOwners) where
    pub few_less : k < 40000
    few_less = (let few = g.few in omega arith)

    pub few_more : suc k ≤ 40000
    few_more = (let few = g.few in omega arith)

    pub within : i < 8
    within = slot_within b.ino.0

    pub idle : IsIdle k p
    idle = g.drained.clients o g.owner.0 g.owner.1

    pub quiet : IsQuietBlock k h
    quiet = idle.blocks b

    pub calm : IsCalm setup k z
    calm = g.drained.slots i within

    pub square : AreSquare setup works o i p z
    square = g.drained.square o i g.owner.0 g.owner.1 within

    pub there : has_node (peers_of setup) (Manager j) ≡ true
    there =
        (let n = number_within setup.managers i g.ok.managers.0 in
        ap (λ t. t && nat_le j setup.managers) (le_test 1 j n.0) ∙ le_test j setup.managers n.1)

    pub has_asker : has_node (peers_of setup) (Client c) ≡ true
    has_asker = ap (λ t. t && nat_le c setup.clients) (le_test 1 c g.asker.0) ∙ le_test c setup.clients g.asker.1

    pub own : is_own h.mode ≡ true
    own = quiet.owned g.dirty

    -- ---- the slot recalls it

    pub turns_left : has_turns z.turn 1 ≡ true
    turns_left = lt_test (z.turn + 1) (2 ^ 64) (let low = calm.turn_low in let few = few_less in omega arith)

    pub more_turns : has_turns (z.turn + 1) 1 ≡ true
    more_turns = lt_test ((z.turn + 1) + 1) (2 ^ 64) (let low = calm.turn_low in let few = few_less in omega arith)

    all_applied : nat_lt (applied_of z.applied c) (s.client c).end.seq ≡ false
    all_applied =
        (let same = (g.drained.square c i g.asker.0 g.asker.1 within).applied in not_lt_test (applied_of z.applied c) (s.client c).end.seq (omega arith))

    pub taken : is_dropped z want (s.client c).end.seq ≡ false
    taken = rw (g.wants, calm.jobs, all_applied) refl

    -- ---- the recall comes to the owner

    pub is_promised_so : (q : ClientPart) → is_promised (tokens_at setup works q) b st ≡ true
    is_promised_so q = ap (λ n. n == z.epoch) (promised i within) ∙ ap (λ n. 1 == n) calm.epoch

    pub later_so : is_later st h.stamp ≡ true
    later_so =
        ap (λ e. is_later (record { epoch = e; turn = z.turn + 1 }) h.stamp) calm.epoch
        ∙ later h.stamp.epoch z.turn h.stamp.turn (square.below b refl).0 (square.below b refl).1

    another : is_stamp h.stamp st ≡ false
    another =
        ap (λ t. (h.stamp.epoch == z.epoch) && t) (other_test h.stamp.turn (z.turn + 1) (λ same. let below = (square.below b refl).1 in omega arith))
        ∙ and_none (h.stamp.epoch == z.epoch)

    pub next_seq : nat_lt p.end.seq u32_end ≡ true
    next_seq = lt_test p.end.seq u32_end (let low = idle.end_low in let few = few_less in omega arith)

    pub recalled_so : IsRecalled setup works o p b st keep
    recalled_so = record {
      idle = idle.call;
      lands = idle.flight;
      some = lt_test 0 (length p.dirty) (some_of (λ (e : BlockId × Change). same_block b e.0) p.dirty (idle.waits.all b g.dirty));
      next = next_seq;
      promised = is_promised_so p;
      later = later_so;
      another = another;
      no_fetch = quiet.fetch;
      none = quiet.giving;
      dirty = g.dirty;
      holds = held_own h.mode own;
    }

    -- ---- its segment

    pub can : CanSeal (suc k) p
    can = idle_can k p idle

    pub fed : p.fed ≡ p.end.seq
    fed = g.drained.fed o g.owner.0 g.owner.1

    pub linked : is_known (its_groups setup works) (prior_from p.end) ≡ true
    linked = g.drained.linked o g.owner.0 g.owner.1

    pub acked : (x : ℕ) → x < 8 → slice_index p.acked x ≡ p.end.seq
    acked x less = sym (ap (λ t. cond t (slice_index p.acked x) 0) (lt_test x 8 less)) ∙ (g.drained.square o x g.owner.0 g.owner.1 less).acked

    pub ready : (x : ℕ) → x < 8 → IsReady o p.end.seq (s.slot x)
    ready x less = (let now = g.drained.slots x less in record {
      turns = calm_turns setup k s.slot few_less g.drained.slots x less;
      jobs = now.jobs;
      applied = (g.drained.square o x g.owner.0 g.owner.1 less).applied;
      counted = now.counted;
      rows_low = (let low = now.rows_low in let few = few_less in omega arith);
    })

    abbrev pub f : FlightState
    f = writing.f setup works (suc k) o s p can g.ok few_more g.owner.0 g.owner.1 fed linked acked ready

    abbrev pub seq : ℕ
    seq = p.end.seq + 1

    abbrev pub rows : List (BlockId × Entry)
    rows = writing.rows setup works (suc k) o s p can g.ok few_more g.owner.0 g.owner.1 fed linked acked ready

    -- the owner with the block to give up, while its segment is on its way
    abbrev pub given : List (BlockId × Held)
    given = put_held p.blocks b (recalling.giving_held setup works o p b st keep)

    abbrev pub flies : List Bool → ClientPart
    flies noted = record p { blocks = given; call = None; dirty = drop 24 p.dirty; flight = Some (record f { noted = noted }) }

    pub room : HasRoom setup works o p
    room = idle_room setup works o k p few_less idle

    pub flies_room : (noted : List Bool) → HasRoom setup works o (flies noted)
    flies_room noted = record { asked = room.asked; req = room.req; seq = room.seq; attempt = refl; again = refl }

    -- all that is known of blocks is as it was, but that one is to be given up
    pub as_before : {A : Type 0} (field : Held → A) → field (recalling.giving_held setup works o p b st keep) ≡ field h → (x : BlockId)
        → field (held_of given x) ≡ field (held_of p.blocks x)
    as_before field same x = put_same field x b (recalling.giving_held setup works o p b st keep) p.blocks same

    newest_as : (xs : List (BlockId × Entry)) → AreNewest p.blocks xs → AreNewest given xs
    newest_as [] all = tt
    newest_as (x ∷ xs) all = (all.0 ∙ sym (as_before (λ y. y.ver) refl x.0), newest_as xs all.1)

    pub newest : AreNewest given rows
    newest = newest_as rows (synced.newest setup works (suc k) o p can)

    pub named : (x : BlockId) → is_dirty (held_of given x) ≡ true → list_any (λ (row : BlockId × Entry). same_block x row.0) rows ≡ true
    named x dirty = synced.named setup works (suc k) o p can x (sym (as_before is_dirty refl x) ∙ dirty)

    pub giving_is : held_of given b ≡ recalling.giving_held setup works o p b st keep
    giving_is = held_of-put_itself b (recalling.giving_held setup works o p b st keep) p.blocks

-- One client has read a block that nobody else owns, and has a copy of it then, under one of the next two turns of the slot; what its cache had no place for is let go. The
-- state is drained again.
use Rattle.version_model.specs.declared.work.Work.TheVariants as work
use Rattle.std.proofs.lemmas.Bool.{false≢true}
use Rattle.xfs_base.specs.declared.token.Mode.TheVariants.{Nothing, Copy, Own}
use Rattle.std.proofs.Common.{◌⊎◌, inl, inr, List, None, Some, [], ap, arith, false, length, refl, slice_get, subst, suc, sym, true, ℕ, ◌&&◌, ◌+◌, ◌<◌, ◌==◌, ◌∙◌, ◌∷◌, ◌≡◌, ◌≤◌}
use Rattle.quiet_law.proofs.Ordered.{ordered_held}
use Rattle.delta_index.specs.Index.{entry_of}
use Rattle.log_flight.specs.declared.dirty.Change.{Change}
use Rattle.quiet_gets.proofs.Copying.{another_share, copies_alone, held_believed, holder_share, no_less}
use Rattle.quiet_law.proofs.Changing.{drained_both, each_of}
use Rattle.quiet_law.proofs.Counters.{low_next}
use Rattle.quiet_law.proofs.Keeping.{lower, quiet_more}
use Rattle.quiet_law.proofs.Waiting.{not_the_block}
use Rattle.quiet_law.specs.Drained.{AreSquare, Drained, IsCalm, IsIdle, IsLow, IsNewest, IsQuietBlock, WaitsForDirty, mode_number}
use Rattle.quiet_law.specs.Lines.{IsNamed, Names}
use Rattle.quiet_nodes.proofs.Rooms.{slot_within}
use Rattle.quiet_nodes.proofs.Tests.{not_lt_test, same_test}
use Rattle.quiet_nodes.specs.Scene.{ClientPart, Scene}
use Rattle.quiet_reads.proofs.Evicting.{OrGone}
use Rattle.slot_beliefs.specs.Beliefs.{beliefs_hold, holder, others, share_of}
use Rattle.slot_beliefs.specs.Recalls.{stamp}
use Rattle.slot_beliefs.specs.declared.job.Holder.{Holder}
use Rattle.std.proofs.lemmas.Bool.Decides.{nat_tests}
use Rattle.std.specs.List.{AllByRecursion}
use Rattle.token_client.specs.Held.{is_dirty, let_go, may_evict}
use Rattle.token_client.specs.State.{held_of}
use Rattle.token_client.specs.declared.held.Held.{Held}
use Rattle.token_manager.specs.SlotState.{SlotState}
use Rattle.version_model.specs.declared.work.Work.{Work}
use Rattle.xfs_base.proofs.BlockOrder.{same_block_exact, same_block_itself}
use Rattle.xfs_base.proofs.Booleans.{and_first, and_second}
use Rattle.xfs_base.specs.Blocks.{same_block, slot_of}
use Rattle.xfs_base.specs.Modes.{is_nothing, is_own}
use Rattle.xfs_base.specs.declared.block.BlockId.{BlockId}
use Rattle.xfs_base.specs.declared.node.NodeId.TheVariants.{Client}
use Rattle.xfs_base.specs.declared.node.NodeId.{NodeId}
use Rattle.xfs_base.specs.declared.setup.Setup.{Setup}
use Rattle.xfs_base.specs.declared.token.Mode.{Mode}
use Rattle.xfs_base.specs.declared.token.Stamp.{Stamp}

-- what isn't held is no owner's
not_owned : (m : Mode) → is_nothing m ≡ true → is_own m ≡ false
not_owned Nothing h = refl
not_owned Copy h = absurd (cc)
not_owned Own h = absurd (cc)

-- a copy of this version, under this stamp, that nothing is asked of
pub record IsCopy (h : Held) (ver : ℕ) (stamp : Stamp) : Type 0 where
  pub mode : h.mode ≡ Copy
  pub version : h.ver ≡ ver
  pub settled : h.settled ≡ ver
  pub its_stamp : h.stamp ≡ stamp
  pub want : h.want ≡ None
  pub fetch : h.fetch ≡ None
  pub giving : h.giving ≡ None

module _ (setup : Setup) (works : NodeId → List Work) (k : ℕ) (s : Scene) (c : ℕ) (d : Drained setup works k s) (least : 1 ≤ c) (most : c ≤ setup.clients)
    (b : BlockId) (asks : is_nothing (held_of (s.client c).blocks b).mode ≡ true) (unowned : others (s.slot (slot_of b.ino.0)).beliefs b c true ≡ []) where
  abbrev i : ℕ
  i = slot_of b.ino.0

  abbrev p : ClientPart
  p = s.client c

  abbrev z : SlotState
  z = s.slot i

  abbrev h : Held
  h = held_of p.blocks b

  within : i < 8
  within = slot_within b.ino.0

  idle : IsIdle k p
  idle = d.clients c least most

  calm : IsCalm setup k z
  calm = d.slots i within

  quiet : IsQuietBlock k h
  quiet = idle.blocks b

  square : AreSquare setup works c i p z
  square = d.square c i least most within

  abbrev ver : ℕ
  ver = (entry_of z.index.rows b).ver

  module _ (turn : ℕ) (later : z.turn < turn) (most_turn : turn ≤ z.turn + 2) (asked : ℕ) (asked_few : asked ≤ p.asked + 1) (blocks : List (BlockId × Held))
      (cached : List BlockId) (copy : Held) (last_is : held_of blocks b ≡ copy)
      (others_as : (x : BlockId) → (x ≡ b → ⊥) → OrGone (held_of p.blocks x) (held_of blocks x)) (is_copy : IsCopy copy ver (stamp 1 turn)) where
    -- the client and the slot then
    abbrev q : ClientPart
    q = record p { asked = asked; begun = p.begun + 1; item = None; req = p.req + 1; blocks = blocks; cached = cached; call = None }

    abbrev z_then : SlotState
    z_then = record z { beliefs = beliefs_hold z.beliefs (holder b c); turn = turn }

    each_held : (P : BlockId → Held → Type 0) → P b copy → ((x : BlockId) (g : Held) → (x ≡ b → ⊥) → OrGone (held_of p.blocks x) g → P x g) → (x : BlockId)
        → P x (held_of blocks x)
    each_held P here other x =
        elim (same_block b x) as (λ t. same_block b x ≡ t → P x (held_of blocks x)) [
          | true ↦ λ same. subst (λ y. P y (held_of blocks y)) (sym (same_block_exact b x same)) (subst (P b) (sym last_is) here)
          | false ↦ λ apart. other x (held_of blocks x) (not_the_block x b apart) (others_as x (not_the_block x b apart))
        ] refl

    gone_quiet : (x : BlockId) (g : Held) → OrGone (held_of p.blocks x) g → IsQuietBlock (suc k) g
    gone_quiet x g (inl same) = subst (IsQuietBlock (suc k)) (sym same) (quiet_more k (held_of p.blocks x) (idle.blocks x))
    gone_quiet x g (inr gone) = let was = idle.blocks x in subst (IsQuietBlock (suc k)) (sym gone.1) (record {
      want = was.want;
      fetch = was.fetch;
      giving = was.giving;
      owned = λ dirty. absurd (false≢true (sym (clean_of (held_of p.blocks x) gone.0) ∙ dirty));
      low = lower k (held_of p.blocks x).ver was.low;
      settled_low = was.settled_low;
    })
      where
        clean_of : (g : Held) → may_evict g ≡ true → is_dirty g ≡ false
        clean_of g may = grind (arith, may)

    -- versions, and whether they are settled, are as they were
    gone_fields : {A : Type 0} (f : Held → A) → ((g : Held) → f (let_go g) ≡ f g) → (x : BlockId) (g : Held) → OrGone (held_of p.blocks x) g → f g ≡ f (held_of p.blocks x)
    gone_fields f same x g (inl is) = ap f is
    gone_fields f same x g (inr gone) = ap f gone.1 ∙ same (held_of p.blocks x)

    clean : is_dirty h ≡ false
    clean =
        elim (is_dirty h) as (λ t. is_dirty h ≡ t → t ≡ false) [
          | true ↦ λ dirty. absurd (false≢true (sym (not_owned h.mode asks) ∙ quiet.owned dirty))
          | false ↦ λ _. refl
        ] refl

    clean_copy : is_dirty copy ≡ false
    clean_copy = let one = is_copy.version in let two = is_copy.settled in not_lt_test copy.settled copy.ver (omega arith)

    clean_then : is_dirty (held_of blocks b) ≡ false
    clean_then = ap is_dirty last_is ∙ clean_copy

    dirty_as : (x : BlockId) → is_dirty (held_of blocks x) ≡ is_dirty (held_of p.blocks x)
    dirty_as x =
        elim (same_block b x) as (λ t. same_block b x ≡ t → is_dirty (held_of blocks x) ≡ is_dirty (held_of p.blocks x)) [
          | true ↦ λ same. subst (λ y. is_dirty (held_of blocks y) ≡ is_dirty (held_of p.blocks y)) (sym (same_block_exact b x same)) (clean_then ∙ sym clean)
          | false ↦ λ apart. gone_fields is_dirty (λ g. refl) x (held_of blocks x) (others_as x (not_the_block x b apart))
        ] refl

    newest_as : (es : List (BlockId × Change)) → AllByRecursion (IsNewest p.blocks) es → AllByRecursion (IsNewest blocks) es
    newest_as [] all = tt
    newest_as (e ∷ es) all = ((all.0.0 ∙ sym same_version, dirty_as e.0 ∙ all.0.1), newest_as es all.1)
      where
        another : e.0 ≡ b → ⊥
        another is = false≢true (sym (ap (λ x. is_dirty (held_of p.blocks x)) is ∙ clean) ∙ all.0.1)

        same_version : (held_of blocks e.0).ver ≡ (held_of p.blocks e.0).ver
        same_version = gone_fields (λ (g : Held). g.ver) (λ g. refl) e.0 (held_of blocks e.0) (others_as e.0 another)

    waits_then : WaitsForDirty blocks p.dirty
    waits_then = record {
      newest = newest_as p.dirty idle.waits.newest;
      once = idle.waits.once;
      all = λ x dirty. idle.waits.all x (sym (dirty_as x) ∙ dirty);
    }

    idle_then : IsIdle (suc k) q
    idle_then = record {
      call = refl;
      item = refl;
      flight = idle.flight;
      blocks = each_held (λ x g. IsQuietBlock (suc k) g)
          (record {
            want = is_copy.want;
            fetch = is_copy.fetch;
            giving = is_copy.giving;
            owned = λ dirty. absurd (false≢true (sym clean_copy ∙ dirty));
            low = subst (IsLow (suc k)) (sym is_copy.version) (lower k ver (calm.versions_low b));
            settled_low = let one = is_copy.version in let two = is_copy.settled in omega arith;
          })
          (λ x g differs gone. gone_quiet x g gone);
      few = idle.few;
      waits = waits_then;
      fits = idle.fits;
      filed = idle.filed;
      acked = idle.acked;
      asked_low = let low = idle.asked_low in omega arith;
      req_low = low_next k p.req idle.req_low;
      end_low = lower k p.end.seq idle.end_low;
    }

    calm_then : IsCalm setup (suc k) z_then
    calm_then = record {
      epoch = calm.epoch;
      jobs = calm.jobs;
      alone = copies_alone z.beliefs b c unowned calm.alone;
      believed = held_believed z.beliefs b c (λ o. (1 ≤ o.client) × (o.client ≤ setup.clients)) calm.believed (least, most);
      ordered = ordered_held z.beliefs (holder b c) calm.ordered;
      applied = calm.applied;
      counted = calm.counted;
      rows_low = lower k (length z.index.rows) calm.rows_low;
      turn_low = let low = calm.turn_low in omega arith;
      versions_low = λ x. lower k (entry_of z.index.rows x).ver (calm.versions_low x);
    }

    -- a stamp is as it was, and a mode is no more
    stamp_as : (x : BlockId) (g : Held) → OrGone (held_of p.blocks x) g → g.stamp ≡ (held_of p.blocks x).stamp
    stamp_as x g gone = gone_fields (λ (f : Held). f.stamp) (λ f. refl) x g gone

    mode_falls : (x : BlockId) (g : Held) → OrGone (held_of p.blocks x) g → mode_number g.mode ≤ mode_number (held_of p.blocks x).mode
    mode_falls x g (inl is) = subst (λ f. mode_number g.mode ≤ mode_number f.mode) is (omega arith)
    mode_falls x g (inr gone) = subst (λ f. mode_number f.mode ≤ mode_number (held_of p.blocks x).mode) (sym gone.1) (omega arith)

    below_as : (m upto : ℕ) → (s.slot m).turn ≤ upto → m < 8 → (x : BlockId) (g : Held) → OrGone (held_of p.blocks x) g → slot_of x.ino.0 ≡ m
        → (g.stamp.epoch ≤ 1) × (g.stamp.turn ≤ upto)
    below_as m upto up_to inside x g gone of_slot =
        let was = (d.square c m least most inside).below x of_slot in
        let first = was.0 in
        let second = was.1 in
        subst (λ (st : Stamp). (st.epoch ≤ 1) × (st.turn ≤ upto)) (sym (stamp_as x g gone)) (first, omega arith)

    square_then : AreSquare setup works c i q z_then
    square_then = record {
      acked = square.acked;
      applied = square.applied;
      below = each_held (λ x g. slot_of x.ino.0 ≡ i → (g.stamp.epoch ≤ 1) × (g.stamp.turn ≤ turn))
          (λ of_slot. subst (λ (st : Stamp). (st.epoch ≤ 1) × (st.turn ≤ turn)) (sym is_copy.its_stamp) (omega arith, omega arith))
          (λ x g differs gone of_slot. below_as i turn (omega arith) within x g gone of_slot);
      covered = each_held (λ x g. slot_of x.ino.0 ≡ i → mode_number g.mode ≤ share_of z_then.beliefs x c)
          (λ of_slot. subst (λ m. mode_number m ≤ share_of z_then.beliefs b c) (sym is_copy.mode) (holder_share z.beliefs b c))
          (λ x g differs gone of_slot.
          let falls = mode_falls x g gone in
          let covers = square.covered x of_slot in
          let more = no_less z.beliefs b c x c in
          omega arith);
    }

    elsewhere : (m : ℕ) → (m ≡ i → ⊥) → m < 8 → AreSquare setup works c m q (s.slot m)
    elsewhere m other inside = let sq = d.square c m least most inside in record {
      acked = sq.acked;
      applied = sq.applied;
      below = each_held (λ x g. slot_of x.ino.0 ≡ m → (g.stamp.epoch ≤ 1) × (g.stamp.turn ≤ (s.slot m).turn)) (λ of_slot. absurd (other (sym of_slot)))
          (λ x g differs gone of_slot. below_as m (s.slot m).turn (omega arith) inside x g gone of_slot);
      covered = each_held (λ x g. slot_of x.ino.0 ≡ m → mode_number g.mode ≤ share_of (s.slot m).beliefs x c) (λ of_slot. absurd (other (sym of_slot)))
          (λ x g differs gone of_slot. let falls = mode_falls x g gone in let covers = sq.covered x of_slot in omega arith);
    }

    up : (n m : ℕ) → n ≤ m → m < turn → n ≤ turn
    up n m few less = omega arith

    theirs : (e : ℕ) → (e ≡ c → ⊥) → 1 ≤ e → e ≤ setup.clients → AreSquare setup works e i (s.client e) z_then
    theirs e other l m = let sq = d.square e i l m within in record {
      acked = sq.acked;
      applied = sq.applied;
      below = λ x of_slot. ((sq.below x of_slot).0, up (held_of (s.client e).blocks x).stamp.turn z.turn (sq.below x of_slot).1 later);
      covered = λ x of_slot. let covers = sq.covered x of_slot in let more = no_less z.beliefs b c x e in omega arith;
    }

    module _ (u : Scene) (clients : (e : ℕ) → (e ≡ c → ⊥) → u.client e ≡ s.client e) (client : u.client c ≡ q) (slots : (m : ℕ) → (m ≡ i → ⊥) → u.slot m ≡ s.slot m)
        (slot : u.slot i ≡ z_then) (same_held : (v : ℕ) → u.held v ≡ s.held v) where
      -- all is drained again
      pub copy_drained : Drained setup works (suc k) u
      copy_drained =
          drained_both setup works k s u c i q z_then d (record { clients = clients; client = client; slots = slots; slot = slot; held = same_held; rows = refl }) (record {
            idle = idle_then;
            fed = d.fed c least most;
            end = refl;
            calm = calm_then;
            square = square_then;
            elsewhere = elsewhere;
            theirs = theirs;
          })

      -- nobody but the client is believed to have more, and it only of the block
      named_at : (x : BlockId) (e : ℕ) → slice_get (works (Client c)) p.begun ≡ Some (work.Bget c b) → 1 ≤ share_of z_then.beliefs x e
          → (1 ≤ share_of z.beliefs x e) ⊎ ((e ≡ c) × Names (slice_get (works (Client c)) p.begun) x)
      named_at x e next some =
          elim (same_block b x && (e == c)) as
          (λ t. (same_block b x && (e == c)) ≡ t → (1 ≤ share_of z.beliefs x e) ⊎ ((e ≡ c) × Names (slice_get (works (Client c)) p.begun) x)) [
            | true ↦ λ both.
                let same = and_first (same_block b x) (e == c) both in
                let one = and_second (same_block b x) (e == c) both in
                inr (equal e c one, subst (λ o. Names o x) (sym next) (sym (same_block_exact b x same)))
            | false ↦ λ other. inl (subst (λ n. 1 ≤ n) (another_share z.beliefs b c x e (λ is. apart other is)) some)
          ] refl
        where
          equal : (n m : ℕ) → (n == m) ≡ true → n ≡ m
          equal n m same = grind (arith, nat_tests)

          apart : (same_block b x && (e == c)) ≡ false → holder x e ≡ holder b c → ⊥
          apart other is =
              false≢true (sym other ∙ ap (λ (o : Holder). same_block b o.block && (o.client == c)) is ∙ ap (λ t. t && (c == c)) (same_block_itself b) ∙ same_test c)

      pub copy_named : slice_get (works (Client c)) p.begun ≡ Some (work.Bget c b) → IsNamed setup works s u c
      copy_named next m inside x e some =
          each_of s.slot u.slot i z_then slots slot
          (λ n (y : SlotState). 1 ≤ share_of y.beliefs x e → (1 ≤ share_of (s.slot n).beliefs x e) ⊎ ((e ≡ c) × Names (slice_get (works (Client c)) p.begun) x))
          (λ more. named_at x e next more) (λ n differs more. inl more) m some

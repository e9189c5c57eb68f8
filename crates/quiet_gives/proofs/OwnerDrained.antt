-- The scene from which a line goes on as if the owner of a block had given it up before: it is drained, a step later than the one in which the line began.
use Rattle.std.proofs.Common.{◌≡◌, ℕ, suc, ◌+◌, ◌-◌, ◌<◌, ◌≤◌, not, Bool, true, false, cond, List, [], ◌∷◌, ◌++◌, drop, length, replicate, slice_index, Some, None, refl, sym, ap, subst, ◌∙◌, arith}
use Rattle.std.proofs.lemmas.Bool.{false≢true}
use Rattle.std.proofs.lemmas.List.{get_or-replicate, get_or-set_other, get_or-set_same}
use Rattle.std.proofs.Math.ListN.{length-set}
use Rattle.std.specs.List.{AllByRecursion}
use Rattle.client_node.specs.Serving.{cached_upto}
use Rattle.delta_feed.specs.declared.feed.FiledDeltas.{FiledDeltas}
use Rattle.delta_feed.specs.FeedState.{acked_of}
use Rattle.delta_feed.specs.Transition.{slot_rows}
use Rattle.log_flight.specs.declared.dirty.Change.{Change}
use Rattle.xfs_base.specs.declared.token.Mode.TheVariants.{Copy, Nothing, Own}
use Rattle.xfs_base.specs.declared.token.Stamp.{Stamp}
use Rattle.slot_beliefs.specs.Beliefs.{give_way, holder, share, share_of}
use Rattle.slot_beliefs.specs.declared.job.Holder.{Holder}
use Rattle.slot_beliefs.specs.Index.{merge_all}
use Rattle.slot_beliefs.proofs.Shares.{belief}
use Rattle.token_client.proofs.Tables.{held_of-put_itself, put_each}
use Rattle.token_client.specs.declared.held.Held.{Held}
use Rattle.token_client.specs.Held.{is_dirty, let_go}
use Rattle.token_client.specs.State.{held_of}
use Rattle.token_manager.proofs.Guarded.{sorted-give_way}
use Rattle.token_manager.specs.SlotState.{SlotState}
use Rattle.version_model.specs.declared.work.Work.{Work}
use Rattle.xfs_base.proofs.Alls.{all_append, all_filter, all_weaker}
use Rattle.xfs_base.proofs.BlockOrder.{same_block_exact}
use Rattle.xfs_base.specs.Blocks.{same_block, slot_of}
use Rattle.xfs_base.specs.declared.block.BlockId.{BlockId}
use Rattle.xfs_base.specs.declared.entry.Entry.{Entry}
use Rattle.xfs_base.specs.declared.node.NodeId.{NodeId}
use Rattle.xfs_base.specs.declared.setup.Setup.{Setup}
use Rattle.xfs_base.specs.declared.token.Mode.{Mode}
use Rattle.xfs_base.specs.Modes.{is_own}
use Rattle.quiet_law.specs.Drained.{AreSquare, Drained, IsCalm, IsIdle, IsLow, IsQuietBlock, IsWritable, WaitsForDirty, mode_number}
use Rattle.quiet_law.proofs.Changing.{each_of}
use Rattle.quiet_law.proofs.Counters.{low_next}
use Rattle.quiet_law.proofs.Keeping.{lower}
use Rattle.quiet_law.proofs.Rows.{fewer}
use Rattle.quiet_law.proofs.Sealed.{drained_sealed}
use Rattle.quiet_law.proofs.Settled.{behind_stays, field_stays, mode_falls, none_dirty}
use Rattle.quiet_law.proofs.Synced.{none_waits, rows_few, rows_low, rows_lying}
use Rattle.quiet_law.proofs.Told.{calm_told}
use Rattle.quiet_law.proofs.Waiting.{not_the_block, other_held}
use Rattle.quiet_law.proofs.Writing.{segment_spelled, striped_so, taken}
use Rattle.quiet_nodes.specs.Scene.{ClientPart, Scene}
use Rattle.quiet_nodes.proofs.Tests.{lt_test, other_test, same_test}
use Rattle.quiet_gives.proofs.BeliefsGiven.{all_given, given_alone, given_copy, given_else, owner_is}
use Rattle.quiet_gives.proofs.GivingUp.{gone, gone_is}
use Rattle.quiet_gives.proofs.OwnerFacts as own
use Rattle.quiet_gives.proofs.OwnerFacts.{IsOwners}
use Rattle.quiet_gives.proofs.OwnerAsIf as as_if
use Rattle.quiet_gives.proofs.OwnerWay as way
use Rattle.quiet_gives.proofs.Recalling as recalling

module _ (setup : Setup) (works : NodeId → List Work) (k : ℕ) (s : Scene) (c o : ℕ) (b : BlockId) (mode : Mode) (g : IsOwners setup works k s c o b mode)
    (asked : ClientPart) where
  abbrev i : ℕ
  i = slot_of b.ino.0

  abbrev z : SlotState
  z = s.slot i

  abbrev p : ClientPart
  p = s.client o

  abbrev keep : Bool
  keep = not (is_own mode)

  abbrev seq : ℕ
  seq = p.end.seq + 1

  abbrev its_rows : List (BlockId × Entry)
  its_rows = own.rows setup works k s c o b mode g

  abbrev rows : ℕ → List (BlockId × Entry)
  rows = way.rows setup works k s c o b mode g asked

  abbrev q : ClientPart
  q = way.q setup works k s c o b mode g asked

  abbrev zg : SlotState
  zg = way.zg setup works k s c o b mode g asked

  abbrev slot_then : ℕ → SlotState
  slot_then = as_if.slot_then setup works k s c o b mode g asked

  abbrev m : Scene
  m = as_if.m setup works k s c o b mode g asked

  idle : IsIdle k p
  idle = own.idle setup works k s c o b mode g

  calm : IsCalm setup k z
  calm = own.calm setup works k s c o b mode g

  within : i < 8
  within = own.within setup works k s c o b mode g

  few_clients : o ≤ 8
  few_clients = (let most = g.owner.1 in let limit = g.ok.clients.1 in omega arith)

  -- ---- what the owner knows of blocks

  abbrev given : List (BlockId × Held)
  given = own.given setup works k s c o b mode g

  abbrev settled : List (BlockId × Held)
  settled = (way.fed_part setup works k s c o b mode g asked).blocks

  abbrev its_gone : Held
  its_gone = gone setup works o (way.fed_part setup works k s c o b mode g asked) b (own.st setup works k s c o b mode) keep

  stays : {A : Type 0} (field : Held → A) → ((x : Held) (ver : ℕ) → field (record x { settled = ver }) ≡ field x) → ((x : Held) → field (let_go x) ≡ field x)
      → field (recalling.giving_held setup works o p b (own.st setup works k s c o b mode) keep) ≡ field (held_of p.blocks b) → (x : BlockId)
      → field (held_of settled x) ≡ field (held_of p.blocks x)
  stays field settling leaving same x =
      field_stays field settling leaving (cached_upto setup.cache) given p.cached its_rows x ∙ own.as_before setup works k s c o b mode g field same x

  clean : (x : BlockId) → is_dirty (held_of settled x) ≡ false
  clean = none_dirty (cached_upto setup.cache) given p.cached its_rows (own.newest setup works k s c o b mode g) (own.named setup works k s c o b mode g)

  low_version : (x : BlockId) → IsLow (suc k) (held_of settled x).ver
  low_version x =
      subst (IsLow (suc k)) (sym (stays (λ y. y.ver) (λ y ver. refl) (λ y. refl) refl x)) (lower k (held_of p.blocks x).ver (idle.blocks x).low)

  behind : (x : BlockId) → (held_of settled x).settled ≤ (held_of settled x).ver
  behind =
      behind_stays (cached_upto setup.cache) given p.cached its_rows
      (put_each (λ x y. y.settled ≤ y.ver) b (recalling.giving_held setup works o p b (own.st setup works k s c o b mode) keep) p.blocks (idle.blocks b).settled_low (λ x. (idle.blocks x).settled_low))

  no_want : (x : BlockId) → (held_of settled x).want ≡ None
  no_want x = stays (λ y. y.want) (λ y ver. refl) (λ y. refl) refl x ∙ (idle.blocks x).want

  no_fetch : (x : BlockId) → (held_of settled x).fetch ≡ None
  no_fetch x = stays (λ y. y.fetch) (λ y ver. refl) (λ y. refl) refl x ∙ (idle.blocks x).fetch

  not_giving : (x : BlockId) → (x ≡ b → ⊥) → (held_of settled x).giving ≡ None
  not_giving x differs =
      field_stays (λ (y : Held). y.giving) (λ y ver. refl) (λ y. refl) (cached_upto setup.cache) given p.cached its_rows x
      ∙ ap (λ (y : Held). y.giving) (other_held b (recalling.giving_held setup works o p b (own.st setup works k s c o b mode) keep) p.blocks x differs)
      ∙ (idle.blocks x).giving

  itself : held_of q.blocks b ≡ its_gone
  itself = held_of-put_itself b its_gone settled

  -- what is so of the block, and of each other one as it was settled, is so of all
  each_held : (P : BlockId → Held → Type 0) → P b its_gone → ((x : BlockId) → (x ≡ b → ⊥) → P x (held_of settled x)) → (x : BlockId) → P x (held_of q.blocks x)
  each_held P here other x =
      elim (same_block b x) as (λ t. same_block b x ≡ t → P x (held_of q.blocks x)) [
        | true ↦ λ same. subst (λ y. P y (held_of q.blocks y)) (sym (same_block_exact b x same)) (subst (P b) (sym itself) here)
        | false ↦ λ apart. subst (P x) (sym (other_held b its_gone settled x (not_the_block x b apart))) (other x (not_the_block x b apart))
      ] refl

  quiet_then : (x : BlockId) → IsQuietBlock (suc k) (held_of q.blocks x)
  quiet_then =
      each_held (λ x y. IsQuietBlock (suc k) y)
      (gone_is setup works o (way.fed_part setup works k s c o b mode g asked) b (own.st setup works k s c o b mode) keep (IsQuietBlock (suc k))
      (record { want = no_want b; fetch = no_fetch b; giving = refl; owned = λ dirty. absurd (false≢true (sym (clean b) ∙ dirty)); low = low_version b; settled_low = behind b })
      (record { want = no_want b; fetch = no_fetch b; giving = refl; owned = λ dirty. absurd (false≢true (sym (clean b) ∙ dirty)); low = low_version b; settled_low = behind b }))
      (λ x differs. record {
        want = no_want x;
        fetch = no_fetch x;
        giving = not_giving x differs;
        owned = λ dirty. absurd (false≢true (sym (clean x) ∙ dirty));
        low = low_version x;
        settled_low = behind x;
      })

  clean_then : (x : BlockId) → is_dirty (held_of q.blocks x) ≡ false
  clean_then =
      each_held (λ x y. is_dirty y ≡ false) (gone_is setup works o (way.fed_part setup works k s c o b mode g asked) b (own.st setup works k s c o b mode) keep (λ y. is_dirty y ≡ false) (clean b) (clean b)) (λ x differs. clean x)

  none_left : drop 24 p.dirty ≡ []
  none_left = none_waits setup works (suc k) o p (own.can setup works k s c o b mode g)

  up : (f : FiledDeltas) → f.seq ≤ p.end.seq → f.seq ≤ p.end.seq + 1
  up f least = omega arith

  filed_then : AllByRecursion (λ (f : FiledDeltas). f.seq ≤ p.end.seq + 1) (p.filed ++ record { seq = seq; rows = its_rows } ∷ [])
  filed_then =
      all_append (λ (f : FiledDeltas). f.seq ≤ p.end.seq + 1) p.filed (record { seq = seq; rows = its_rows } ∷ [])
      (all_weaker (λ (f : FiledDeltas). f.seq ≤ p.end.seq) (λ (f : FiledDeltas). f.seq ≤ p.end.seq + 1) up p.filed idle.filed) (omega arith, tt)

  idle_then : IsIdle (suc k) q
  idle_then = record {
    call = refl;
    item = idle.item;
    flight = refl;
    blocks = quiet_then;
    few = subst (λ (ds : List (BlockId × Change)). length ds ≤ 23) (sym none_left) (omega arith);
    waits = subst (λ ds. WaitsForDirty q.blocks ds) (sym none_left) (record {
      newest = tt;
      once = tt;
      all = λ x dirty. absurd (false≢true (sym (clean_then x) ∙ dirty));
    });
    fits = subst (AllByRecursion IsWritable) (sym none_left) tt;
    filed = filed_then;
    acked = refl;
    asked_low = lower k p.asked idle.asked_low;
    req_low = lower k p.req idle.req_low;
    end_low = low_next k p.end.seq idle.end_low;
  }

  -- ---- the slots

  each_slot : (P : ℕ → SlotState → Type 0) → P i zg → ((x : ℕ) → (x ≡ i → ⊥) → P x (slot_then x)) → (x : ℕ) → P x (m.slot x)
  each_slot = each_of slot_then m.slot i zg (λ x differs. ap (λ t. cond t zg (slot_then x)) (other_test x i differs)) (ap (λ t. cond t zg (slot_then i)) (same_test i))

  told_calm : (x : ℕ) → x < 8 → IsCalm setup (suc k) (slot_then x)
  told_calm x less =
      calm_told setup k (s.slot x) (record { 0 = o }) seq (rows x) (g.drained.slots x less)
      (let fit = fewer x its_rows in let small = rows_few setup works (suc k) o p (own.can setup works k s c o b mode g) in omega arith)
      (all_filter _ _ its_rows (rows_low setup works (suc k) o p (own.can setup works k s c o b mode g)))

  its_calm : IsCalm setup (suc k) zg
  its_calm = (let now = told_calm i within in record {
    epoch = calm.epoch;
    jobs = refl;
    alone = given_alone z.beliefs (holder b o) calm.ordered keep calm.alone;
    believed = all_given (λ (h : Holder). (1 ≤ h.client) × (h.client ≤ setup.clients)) (holder b o) z.beliefs keep calm.believed;
    ordered = sorted-give_way z.beliefs (holder b o) keep calm.ordered;
    applied = length-set z.applied (o - 1) seq ∙ calm.applied;
    counted = now.counted;
    rows_low = now.rows_low;
    turn_low = low_next k z.turn calm.turn_low;
    versions_low = now.versions_low;
  })

  calm_then : (x : ℕ) → x < 8 → IsCalm setup (suc k) (m.slot x)
  calm_then = each_slot (λ x y. x < 8 → IsCalm setup (suc k) y) (λ less. its_calm) (λ x differs. told_calm x)

  -- ---- the owner beside each slot

  owns : belief z.beliefs (holder b o) ≡ Some true
  owns = owner_is (belief z.beliefs (holder b o)) (covers (held_of p.blocks b).mode (own.own setup works k s c o b mode g) ((own.square setup works k s c o b mode g).covered b refl))
    where
      covers : (n : Mode) → is_own n ≡ true → mode_number n ≤ share_of z.beliefs b o → 2 ≤ share_of z.beliefs b o
      covers Nothing is h = absurd (false≢true is)
      covers Copy is h = absurd (false≢true is)
      covers Own is h = h

  gone_covered : mode_number its_gone.mode ≤ share_of zg.beliefs b o
  gone_covered = by keep
    where
      by : (may : Bool) → mode_number (gone setup works o (way.fed_part setup works k s c o b mode g asked) b (own.st setup works k s c o b mode) may).mode ≤ share (belief (give_way z.beliefs (holder b o) may) (holder b o))
      by true =
          subst (λ n. mode_number (gone setup works o (way.fed_part setup works k s c o b mode g asked) b (own.st setup works k s c o b mode) true).mode ≤ n) (sym (given_copy z.beliefs (holder b o) calm.ordered owns))
          (gone_is setup works o (way.fed_part setup works k s c o b mode g asked) b (own.st setup works k s c o b mode) true (λ y. mode_number y.mode ≤ 1) (omega arith) (omega arith))
      by false = omega arith

  mode_less : (x : BlockId) → mode_number (held_of settled x).mode ≤ mode_number (held_of p.blocks x).mode
  mode_less x =
      subst (λ n. mode_number (held_of settled x).mode ≤ mode_number n) (own.as_before setup works k s c o b mode g (λ y. y.mode) refl x)
      (mode_falls (cached_upto setup.cache) given p.cached its_rows x)

  below_both : (a b c : ℕ) → a ≤ b → b ≤ c → a ≤ c
  below_both a b c h n = omega arith

  up_one : (n t : ℕ) → n ≤ t → n ≤ t + 1
  up_one n t h = omega arith

  stamp_as : (x : BlockId) → (held_of settled x).stamp ≡ (held_of p.blocks x).stamp
  stamp_as = stays (λ y. y.stamp) (λ y ver. refl) (λ y. refl) refl

  acked_then : (x : ℕ) → x < 8 → acked_of (record { base = 0; filed = q.filed; end = q.fed; acked = q.acked }) x ≡ q.end.seq
  acked_then x less = ap (λ t. cond t (slice_index (replicate 8 seq) x) 0) (lt_test x 8 less) ∙ get_or-replicate 8 x seq 0 less

  gone_stamp : (its_gone.stamp.epoch ≤ 1) × (its_gone.stamp.turn ≤ z.turn + 1)
  gone_stamp =
      gone_is setup works o (way.fed_part setup works k s c o b mode g asked) b (own.st setup works k s c o b mode) keep (λ y. (y.stamp.epoch ≤ 1) × (y.stamp.turn ≤ z.turn + 1))
      ((let one = calm.epoch in omega arith), omega arith) ((let one = calm.epoch in omega arith), omega arith)

  its_square : AreSquare setup works o i q zg
  its_square = record {
    acked = acked_then i within;
    applied = get_or-set_same z.applied (o - 1) seq 0 (let long = calm.applied in let limit = few_clients in omega arith);
    below = each_held (λ x y. slot_of x.ino.0 ≡ i → (y.stamp.epoch ≤ 1) × (y.stamp.turn ≤ z.turn + 1)) (λ _. gone_stamp)
        (λ x differs of_slot. (let was = (own.square setup works k s c o b mode g).below x of_slot in let same = stamp_as x in
        subst (λ (t : Stamp). (t.epoch ≤ 1) × (t.turn ≤ z.turn + 1)) (sym same) (was.0, up_one (held_of p.blocks x).stamp.turn z.turn was.1)));
    covered = each_held (λ x y. slot_of x.ino.0 ≡ i → mode_number y.mode ≤ share_of zg.beliefs x o) (λ _. gone_covered)
        (λ x differs of_slot.
        subst (λ n. mode_number (held_of settled x).mode ≤ n)
        (sym (given_else z.beliefs (holder b o) calm.ordered keep (holder x o) (λ same. differs (ap (λ (h : Holder). h.block) same))))
        (below_both (mode_number (held_of settled x).mode) (mode_number (held_of p.blocks x).mode) (share_of z.beliefs x o) (mode_less x) ((own.square setup works k s c o b mode g).covered x of_slot)));
  }

  other_square : (x : ℕ) → (x ≡ i → ⊥) → x < 8 → AreSquare setup works o x q (slot_then x)
  other_square x other less = (let sq = g.drained.square o x g.owner.0 g.owner.1 less in record {
    acked = acked_then x less;
    applied = get_or-set_same (s.slot x).applied (o - 1) seq 0 (let long = (g.drained.slots x less).applied in let limit = few_clients in omega arith);
    below = each_held (λ y held. slot_of y.ino.0 ≡ x → (held.stamp.epoch ≤ 1) × (held.stamp.turn ≤ (s.slot x).turn)) (λ of_slot. absurd (other (sym of_slot)))
        (λ y differs of_slot. subst (λ (t : Stamp). (t.epoch ≤ 1) × (t.turn ≤ (s.slot x).turn)) (sym (stamp_as y)) (sq.below y of_slot));
    covered = each_held (λ y held. slot_of y.ino.0 ≡ x → mode_number held.mode ≤ share_of (s.slot x).beliefs y o) (λ of_slot. absurd (other (sym of_slot)))
        (λ y differs of_slot.
        below_both (mode_number (held_of settled y).mode) (mode_number (held_of p.blocks y).mode) (share_of (s.slot x).beliefs y o) (mode_less y) (sq.covered y of_slot));
  })

  square_then : (x : ℕ) → x < 8 → AreSquare setup works o x q (m.slot x)
  square_then = each_slot (λ x y. x < 8 → AreSquare setup works o x q y) (λ less. its_square) other_square

  -- ---- the others

  theirs_then : (e : ℕ) → (e ≡ o → ⊥) → 1 ≤ e → e ≤ setup.clients → (x : ℕ) → x < 8 → AreSquare setup works e x (s.client e) (m.slot x)
  theirs_then e differs l h =
      each_slot (λ x y. x < 8 → AreSquare setup works e x (s.client e) y)
      (λ less. (let sq = g.drained.square e i l h less in record {
        acked = sq.acked;
        applied = get_or-set_other z.applied (o - 1) (e - 1) seq 0 (λ same. differs (apart e o l g.owner.0 same)) ∙ sq.applied;
        below = λ x of_slot. ((sq.below x of_slot).0, up_one ((held_of (s.client e).blocks x).stamp.turn) z.turn (sq.below x of_slot).1);
        covered = λ x of_slot.
            subst (λ n. mode_number (held_of (s.client e).blocks x).mode ≤ n)
            (sym (given_else z.beliefs (holder b o) calm.ordered keep (holder x e) (λ same. differs (ap (λ (h : Holder). h.client) same)))) (sq.covered x of_slot);
      }))
      (λ x other less. (let sq = g.drained.square e x l h less in record {
        acked = sq.acked;
        applied = get_or-set_other (s.slot x).applied (o - 1) (e - 1) seq 0 (λ same. differs (apart e o l g.owner.0 same)) ∙ sq.applied;
        below = sq.below;
        covered = sq.covered;
      }))
    where
      apart : (a n : ℕ) → 1 ≤ a → 1 ≤ n → a - 1 ≡ n - 1 → a ≡ n
      apart a n h g same = omega arith

  -- ---- all

  pub drained_then : Drained setup works (suc k) m
  drained_then =
      drained_sealed setup works k s m o q m.slot (own.f setup works k s c o b mode g) its_rows g.drained g.owner.0 g.owner.1
      (record {
        log = refl;
        seq = refl;
        end = refl;
        taken = taken setup works (suc k) o s p (own.can setup works k s c o b mode g) g.ok (own.few_more setup works k s c o b mode g) g.owner.0 g.owner.1 (own.fed setup works k s c o b mode g) (own.linked setup works k s c o b mode g) (own.acked setup works k s c o b mode g) (own.ready setup works k s c o b mode g);
        group = (striped_so setup works (suc k) o s p (own.can setup works k s c o b mode g) g.ok (own.few_more setup works k s c o b mode g) g.owner.0 g.owner.1 (own.fed setup works k s c o b mode g) (own.linked setup works k s c o b mode g) (own.acked setup works k s c o b mode g) (own.ready setup works k s c o b mode g)).found;
        prior = own.linked setup works k s c o b mode g;
        lying = rows_lying setup works (suc k) o p (own.can setup works k s c o b mode g);
        each = (striped_so setup works (suc k) o s p (own.can setup works k s c o b mode g) g.ok (own.few_more setup works k s c o b mode g) g.owner.0 g.owner.1 (own.fed setup works k s c o b mode g) (own.linked setup works k s c o b mode g) (own.acked setup works k s c o b mode g) (own.ready setup works k s c o b mode g)).each;
        end_fits = ((omega arith, omega arith), (striped_so setup works (suc k) o s p (own.can setup works k s c o b mode g) g.ok (own.few_more setup works k s c o b mode g) g.owner.0 g.owner.1 (own.fed setup works k s c o b mode g) (own.linked setup works k s c o b mode g) (own.acked setup works k s c o b mode g) (own.ready setup works k s c o b mode g)).low);
        spelled = segment_spelled setup works (suc k) o s p (own.can setup works k s c o b mode g) g.ok (own.few_more setup works k s c o b mode g) g.owner.0 g.owner.1 (own.fed setup works k s c o b mode g) (own.linked setup works k s c o b mode g) (own.acked setup works k s c o b mode g) (own.ready setup works k s c o b mode g) (g.drained.passes o g.owner.0 g.owner.1);
        differ = (striped_so setup works (suc k) o s p (own.can setup works k s c o b mode g) g.ok (own.few_more setup works k s c o b mode g) g.owner.0 g.owner.1 (own.fed setup works k s c o b mode g) (own.linked setup works k s c o b mode g) (own.acked setup works k s c o b mode g) (own.ready setup works k s c o b mode g)).differ;
      })
      (record {
        clients = λ e differs. ap (λ t. cond t q (s.client e)) (other_test e o differs);
        client = ap (λ t. cond t q p) (same_test o);
        slots = λ x less. refl;
        held = λ v. refl;
        entries = each_slot (λ x y. x < 8 → y.index.rows ≡ (merge_all (s.slot x).index (slot_rows x its_rows)).rows) (λ less. refl) (λ x differs less. refl);
      })
      (record {
        idle = idle_then;
        fed = refl;
        calm = calm_then;
        square = square_then;
        theirs = theirs_then;
      })

-- What is drained once each of the others that are believed to hold a block gave it up, where they held it clean; or each of the owners did, but for a copy.
use Rattle.std.proofs.Common.{◌≡◌, ℕ, suc, ◌+◌, ◌*◌, ◌<◌, ◌≤◌, ◌==◌, ◌&&◌, ◌||◌, Bool, true, false, cond, All, List, [], ◌∷◌, length, Option, None, refl, sym, ap, subst, ◌∙◌, arith}
use Rattle.std.specs.List.{AllByRecursion}
use Rattle.std.proofs.lemmas.Bool.{false≢true}
use Rattle.std.proofs.lemmas.Bool.Decides.{nat_tests}
use Rattle.client_log.specs.Transition.{prior_from}
use Rattle.delta_index.specs.Index.{entry_of}
use Rattle.log_flight.specs.declared.dirty.Change.{Change}
use Rattle.segment_format.specs.Ranges.{FitsPrior}
use Rattle.segment_reading.specs.Reading.{is_known}
use Rattle.slot_beliefs.specs.Beliefs.{holder, others, share_of}
use Rattle.slot_beliefs.specs.declared.job.Holder.{Holder}
use Rattle.token_client.specs.declared.held.Held.{Held}
use Rattle.token_client.specs.Held.{give_up as given_held, is_dirty}
use Rattle.token_client.specs.State.{held_of}
use Rattle.token_manager.specs.SlotState.{SlotState}
use Rattle.version_model.specs.declared.work.Work.{Work}
use Rattle.xfs_base.proofs.BlockOrder.{same_block_exact}
use Rattle.xfs_base.specs.Blocks.{same_block, slot_of}
use Rattle.xfs_base.specs.declared.block.BlockId.{BlockId}
use Rattle.xfs_base.specs.declared.entry.Place.{Place}
use Rattle.xfs_base.specs.declared.node.NodeId.{NodeId}
use Rattle.xfs_base.specs.declared.segment.End.{End}
use Rattle.xfs_base.specs.declared.setup.Setup.{Setup}
use Rattle.xfs_base.specs.declared.token.Mode.{Mode}
use Rattle.xfs_base.specs.declared.token.Mode.TheVariants.{Copy, Nothing, Own}
use Rattle.xfs_base.specs.declared.token.Stamp.{Stamp}
use Rattle.xfs_base.specs.Modes.{is_held}
use Rattle.quiet_gives.specs.Recalls.{all_given_up, clients_gave}
use Rattle.quiet_gives.proofs.Given.{alone_given, believed_given, each_other, few_others, keeps_some, ordered_given, share_stays}
use Rattle.quiet_gives.proofs.Givers.{HasGiven, each_block, given_field, gives, is_among, of_member, stays}
use Rattle.quiet_law.specs.Drained.{AreSquare, Drained, IsCalm, IsIdle, IsNewest, IsPlaceReadable, IsQuietBlock, WaitsForDirty, mode_number}
use Rattle.quiet_law.proofs.Changing.{each_of}
use Rattle.quiet_law.proofs.Keeping.{all_shelved, calm_more, idle_again, lower, readable_as}
use Rattle.quiet_law.proofs.Waiting.{not_the_block}
use Rattle.quiet_nodes.specs.Scene.{ClientPart, Scene, its_groups, put_number}
use Rattle.quiet_nodes.proofs.Rooms.{slot_within}
use Rattle.quiet_nodes.proofs.Tests.{other_test, same_test}

-- what giving up makes of a block: a copy, or nothing
abbrev copy_of : Held → Stamp → Held
copy_of h st = record h { mode = Copy; stamp = st; giving = None }

abbrev none_of_it : Held → Stamp → Held
none_of_it h st = record h { mode = Nothing; value = None; stamp = st; giving = None }

up : (n m h : ℕ) → n ≤ m → n ≤ m + h
up n m h less = omega arith

module _ (setup : Setup) (works : NodeId → List Work) (k : ℕ) (s : Scene) (c : ℕ) (b : BlockId) (keep : Bool) (d : Drained setup works k s) (most_clients : setup.clients ≤ 8)
    (clean : AllByRecursion (λ e. is_dirty (held_of (s.client e).blocks b) ≡ false) (others (s.slot (slot_of b.ino.0)).beliefs b c keep)) where
  abbrev pub i : ℕ
  i = slot_of b.ino.0

  abbrev pub z : SlotState
  z = s.slot i

  abbrev pub hs : List ℕ
  hs = others z.beliefs b c keep

  abbrev pub turn_then : ℕ
  turn_then = z.turn + length hs

  -- the slot, and the scene, once they gave it up
  abbrev pub z_then : SlotState
  z_then = record z { beliefs = all_given_up b keep z.beliefs hs; jobs = []; turn = turn_then }

  abbrev pub m : Scene
  m = record s { client = clients_gave setup works b keep s.client z.turn hs; slot = put_number s.slot i z_then }

  within : i < 8
  within = slot_within b.ino.0

  calm : IsCalm setup k z
  calm = d.slots i within

  -- ---- who they are

  weaker : (bs : List (Holder × Bool)) → All (λ (e : Holder × Bool). (1 ≤ e.0.client) × (e.0.client ≤ setup.clients)) bs
      → All (λ (e : Holder × Bool). e.0.client ≤ 8) bs
  weaker bs all = λ n at less. (let upper = (all n at less).1 in let limit = most_clients in omega arith)

  pub few_hs : length hs ≤ 9
  few_hs = few_others b c keep 8 z.beliefs calm.ordered (weaker z.beliefs calm.believed)

  -- each is a client of the setup, and not the asker
  pub are_clients : AllByRecursion (λ e. (e ≡ c → ⊥) × ((1 ≤ e) × (e ≤ setup.clients))) hs
  are_clients = each_other b c keep (λ e. (1 ≤ e) × (e ≤ setup.clients)) z.beliefs calm.believed

  -- who isn't among them has another belief than theirs
  apart_of : (e : ℕ) (ds : List ℕ) → is_among e ds ≡ false → AllByRecursion (λ y. holder b e ≡ holder b y → ⊥) ds
  apart_of e [] out = tt
  apart_of e (y ∷ ds) out =
      elim (e == y) as (λ t. (e == y) ≡ t → (t || is_among e ds) ≡ false → AllByRecursion (λ n. holder b e ≡ holder b n → ⊥) (y ∷ ds)) [
        | true ↦ λ _ h. absurd (false≢true (sym h))
        | false ↦ λ differs rest. (λ same. apart e y differs (ap (λ (h : Holder). h.client) same), apart_of e ds rest)
      ] refl out
    where
      apart : (n o : ℕ) → (n == o) ≡ false → n ≡ o → ⊥
      apart n o h same = grind (arith, nat_tests)

  -- ---- each client

  pub each_client : (P : ℕ → ClientPart → Type 0) → ((e : ℕ) → is_among e hs ≡ false → P e (s.client e))
      → ((e : ℕ) (q : ClientPart) → is_among e hs ≡ true → HasGiven setup works b keep turn_then (s.client e) q → P e q) → (e : ℕ) → P e (m.client e)
  each_client P same given e =
      elim (is_among e hs) as (λ t. is_among e hs ≡ t → P e (m.client e)) [
        | true ↦ λ has. given e (m.client e) has (gives setup works b keep s.client z.turn hs e has)
        | false ↦ λ out. subst (P e) (sym (stays setup works b keep s.client z.turn hs e out)) (same e out)
      ] refl

  module _ (e : ℕ) (p q : ClientPart) (g : HasGiven setup works b keep turn_then p q) where
    dirty_as : (x : BlockId) → is_dirty (held_of q.blocks x) ≡ is_dirty (held_of p.blocks x)
    dirty_as = each_block setup works b keep (λ x h. is_dirty h ≡ is_dirty (held_of p.blocks x)) turn_then p q g
        (given_field is_dirty keep (held_of p.blocks b) g.stamped refl refl) (λ x differs. refl)

    version_as : (x : BlockId) → (held_of q.blocks x).ver ≡ (held_of p.blocks x).ver
    version_as = each_block setup works b keep (λ x h. h.ver ≡ (held_of p.blocks x).ver) turn_then p q g
        (given_field (λ (h : Held). h.ver) keep (held_of p.blocks b) g.stamped refl refl) (λ x differs. refl)

    newest_as : (es : List (BlockId × Change)) → AllByRecursion (IsNewest p.blocks) es → AllByRecursion (IsNewest q.blocks) es
    newest_as [] all = tt
    newest_as (x ∷ es) all = ((all.0.0 ∙ sym (version_as x.0), dirty_as x.0 ∙ all.0.1), newest_as es all.1)

    waits_as : WaitsForDirty p.blocks p.dirty → WaitsForDirty q.blocks p.dirty
    waits_as w = record { newest = newest_as p.dirty w.newest; once = w.once; all = λ x dirty. w.all x (sym (dirty_as x) ∙ dirty) }

    quiet_as : IsIdle k p → is_dirty (held_of p.blocks b) ≡ false → (x : BlockId) → IsQuietBlock (suc k) (held_of q.blocks x)
    quiet_as idle its_clean =
        each_block setup works b keep (λ x h. IsQuietBlock (suc k) h) turn_then p q g
        (let h = idle.blocks b in by_test (keep && is_held (held_of p.blocks b).mode) (record {
          want = h.want;
          fetch = h.fetch;
          giving = refl;
          owned = λ dirty. absurd (false≢true (sym its_clean ∙ dirty));
          low = lower k (held_of p.blocks b).ver h.low;
          settled_low = h.settled_low;
        }) (record {
          want = h.want;
          fetch = h.fetch;
          giving = refl;
          owned = λ dirty. absurd (false≢true (sym its_clean ∙ dirty));
          low = lower k (held_of p.blocks b).ver h.low;
          settled_low = h.settled_low;
        }))
        (λ x differs. (let h = idle.blocks x in record {
          want = h.want;
          fetch = h.fetch;
          giving = h.giving;
          owned = h.owned;
          low = lower k (held_of p.blocks x).ver h.low;
          settled_low = h.settled_low;
        }))
      where
        by_test : (t : Bool) → IsQuietBlock (suc k) (copy_of (held_of p.blocks b) g.stamped) → IsQuietBlock (suc k) (none_of_it (held_of p.blocks b) g.stamped)
            → IsQuietBlock (suc k) (cond t (copy_of (held_of p.blocks b) g.stamped) (none_of_it (held_of p.blocks b) g.stamped))
        by_test true a n = a
        by_test false a n = n

    idle_as : IsIdle k p → is_dirty (held_of p.blocks b) ≡ false → IsIdle (suc k) q
    idle_as idle its_clean =
        subst (IsIdle (suc k)) (sym g.rest) (record {
          call = idle.call;
          item = idle.item;
          flight = idle.flight;
          blocks = quiet_as idle its_clean;
          few = idle.few;
          waits = waits_as idle.waits;
          fits = idle.fits;
          filed = idle.filed;
          acked = idle.acked;
          asked_low = lower k p.asked idle.asked_low;
          req_low = lower k p.req idle.req_low;
          end_low = lower k p.end.seq idle.end_low;
        })

    -- ---- beside the slot of the block, and beside the others

    apart_all : (x : BlockId) (n : ℕ) → (x ≡ b → ⊥) → (ds : List ℕ) → AllByRecursion (λ y. holder x n ≡ holder b y → ⊥) ds
    apart_all x n differs [] = tt
    apart_all x n differs (y ∷ ds) = (λ same. differs (ap (λ (h : Holder). h.block) same), apart_all x n differs ds)

    share_as : (x : BlockId) (n : ℕ) → (x ≡ b → ⊥) → share_of z_then.beliefs x n ≡ share_of z.beliefs x n
    share_as x n differs = share_stays b keep z.beliefs hs x n calm.ordered (apart_all x n differs hs)

    its_stamp : ((given_held (held_of p.blocks b) g.stamped keep).stamp.epoch ≤ 1) × ((given_held (held_of p.blocks b) g.stamped keep).stamp.turn ≤ turn_then)
    its_stamp = by_test (keep && is_held (held_of p.blocks b).mode)
      where
        by_test : (t : Bool) → ((cond t (copy_of (held_of p.blocks b) g.stamped) (none_of_it (held_of p.blocks b) g.stamped)).stamp.epoch ≤ 1)
            × ((cond t (copy_of (held_of p.blocks b) g.stamped) (none_of_it (held_of p.blocks b) g.stamped)).stamp.turn ≤ turn_then)
        by_test true = (g.epoch, g.before)
        by_test false = (g.epoch, g.before)

    -- what it keeps it is believed to
    its_cover : mode_number (held_of p.blocks b).mode ≤ share_of z.beliefs b e
        → mode_number (given_held (held_of p.blocks b) g.stamped keep).mode ≤ share_of z_then.beliefs b e
    its_cover covered = by_keep keep refl
      where
        some : (mode : Mode) → is_held mode ≡ true → mode_number mode ≤ share_of z.beliefs b e → 1 ≤ share_of z.beliefs b e
        some Nothing held less = absurd (false≢true held)
        some Copy held less = less
        some Own held less = omega (arith, less)

        by_mode : (t : Bool) → is_held (held_of p.blocks b).mode ≡ t
            → mode_number (cond t (copy_of (held_of p.blocks b) g.stamped) (none_of_it (held_of p.blocks b) g.stamped)).mode ≤ share_of (all_given_up b true z.beliefs hs) b e
        by_mode true held = keeps_some b z.beliefs hs b e (some (held_of p.blocks b).mode held covered)
        by_mode false held = omega arith

        by_keep : (y : Bool) → keep ≡ y → mode_number (given_held (held_of p.blocks b) g.stamped y).mode ≤ share_of (all_given_up b y z.beliefs hs) b e
        by_keep true is = by_mode (is_held (held_of p.blocks b).mode) refl
        by_keep false is = omega arith

    square_here : AreSquare setup works e i p z → AreSquare setup works e i q z_then
    square_here sq =
        subst (λ (y : ClientPart). AreSquare setup works e i y z_then) (sym g.rest) (record {
          acked = sq.acked;
          applied = sq.applied;
          below = each_block setup works b keep (λ x h. slot_of x.ino.0 ≡ i → (h.stamp.epoch ≤ 1) × (h.stamp.turn ≤ turn_then)) turn_then p q g
              (λ _. its_stamp)
              (λ x differs of_slot. ((sq.below x of_slot).0, up (held_of p.blocks x).stamp.turn z.turn (length hs) (sq.below x of_slot).1));
          covered = each_block setup works b keep (λ x h. slot_of x.ino.0 ≡ i → mode_number h.mode ≤ share_of z_then.beliefs x e) turn_then p q g
              (λ _. its_cover (sq.covered b refl))
              (λ x differs of_slot. subst (λ n. mode_number (held_of p.blocks x).mode ≤ n) (sym (share_as x e differs)) (sq.covered x of_slot));
        })

    square_there : (y : ℕ) → (y ≡ i → ⊥) → AreSquare setup works e y p (s.slot y) → AreSquare setup works e y q (s.slot y)
    square_there y other sq =
        subst (λ (x : ClientPart). AreSquare setup works e y x (s.slot y)) (sym g.rest) (record {
          acked = sq.acked;
          applied = sq.applied;
          below = each_block setup works b keep (λ x h. slot_of x.ino.0 ≡ y → (h.stamp.epoch ≤ 1) × (h.stamp.turn ≤ (s.slot y).turn)) turn_then p q g
              (λ of_slot. absurd (other (sym of_slot))) (λ x differs. sq.below x);
          covered = each_block setup works b keep (λ x h. slot_of x.ino.0 ≡ y → mode_number h.mode ≤ share_of (s.slot y).beliefs x e) turn_then p q g
              (λ of_slot. absurd (other (sym of_slot))) (λ x differs. sq.covered x);
        })

  -- a client that isn't among them
  module _ (e : ℕ) (out : is_among e hs ≡ false) where
    abbrev p : ClientPart
    p = s.client e

    square_kept : AreSquare setup works e i p z → AreSquare setup works e i p z_then
    square_kept sq = record {
      acked = sq.acked;
      applied = sq.applied;
      below = λ x of_slot. ((sq.below x of_slot).0, up (held_of p.blocks x).stamp.turn z.turn (length hs) (sq.below x of_slot).1);
      covered = λ x of_slot.
          elim (same_block b x) as (λ t. same_block b x ≡ t → mode_number (held_of p.blocks x).mode ≤ share_of z_then.beliefs x e) [
            | true ↦ λ same. subst (λ y. mode_number (held_of p.blocks y).mode ≤ share_of z_then.beliefs y e) (sym (same_block_exact b x same))
                (subst (λ n. mode_number (held_of p.blocks b).mode ≤ n) (sym (share_stays b keep z.beliefs hs b e calm.ordered (apart_of e hs out))) (sq.covered b refl))
            | false ↦ λ apart. subst (λ n. mode_number (held_of p.blocks x).mode ≤ n)
                (sym (share_stays b keep z.beliefs hs x e calm.ordered (other_all x (not_the_block x b apart) hs))) (sq.covered x of_slot)
          ] refl;
    }
      where
        other_all : (x : BlockId) → (x ≡ b → ⊥) → (ds : List ℕ) → AllByRecursion (λ y. holder x e ≡ holder b y → ⊥) ds
        other_all x differs [] = tt
        other_all x differs (y ∷ ds) = (λ same. differs (ap (λ (h : Holder). h.block) same), other_all x differs ds)

  -- ---- the slot

  turn_low : z.turn + length hs ≤ 64 * suc k
  turn_low = (let before = calm.turn_low in let few = few_hs in omega arith)

  calm_then : IsCalm setup (suc k) z_then
  calm_then = record {
    epoch = calm.epoch;
    jobs = refl;
    alone = alone_given b keep z.beliefs hs calm.ordered calm.alone;
    believed = believed_given (λ (o : Holder). (1 ≤ o.client) × (o.client ≤ setup.clients)) b keep z.beliefs hs calm.believed;
    ordered = ordered_given b keep z.beliefs hs calm.ordered;
    applied = calm.applied;
    counted = calm.counted;
    rows_low = lower k (length z.index.rows) calm.rows_low;
    turn_low = turn_low;
    versions_low = λ x. lower k (entry_of z.index.rows x).ver (calm.versions_low x);
  }

  pub slot_is : m.slot i ≡ z_then
  slot_is = ap (λ t. cond t z_then (s.slot i)) (same_test i)

  pub each_slot : (P : ℕ → SlotState → Type 0) → P i z_then → ((y : ℕ) → (y ≡ i → ⊥) → P y (s.slot y)) → (y : ℕ) → P y (m.slot y)
  each_slot = each_of s.slot m.slot i z_then (λ y differs. ap (λ t. cond t z_then (s.slot y)) (other_test y i differs)) slot_is

  -- ---- all

  ends : (e : ℕ) → (m.client e).end ≡ (s.client e).end
  ends = each_client (λ e (p : ClientPart). p.end ≡ (s.client e).end) (λ e out. refl) (λ e q has g. ap (λ (p : ClientPart). p.end) g.rest)

  readable : (x : BlockId) (o : Option Place) → IsPlaceReadable setup works s x o → IsPlaceReadable setup works m x o
  readable = readable_as setup works s m (λ v n f is. is)

  abbrev fed_so : ClientPart → Type 0
  fed_so p = p.fed ≡ p.end.seq

  pub drained_given : Drained setup works (suc k) m
  drained_given = record {
    clients = each_client (λ e p. 1 ≤ e → e ≤ setup.clients → IsIdle (suc k) p) (λ e out l h. idle_again k (s.client e) (d.clients e l h))
        (λ e q has g l h. idle_as e (s.client e) q g (d.clients e l h) (of_member (λ x. is_dirty (held_of (s.client x).blocks b) ≡ false) e hs clean has));
    fed = each_client (λ e p. 1 ≤ e → e ≤ setup.clients → fed_so p) (λ e out. d.fed e) (λ e q has g l h. subst fed_so (sym g.rest) (d.fed e l h));
    linked = λ e l h. ap (λ x. is_known (its_groups setup works) (prior_from x)) (ends e) ∙ d.linked e l h;
    passes = λ e l h. subst (λ x. FitsPrior (prior_from x)) (sym (ends e)) (d.passes e l h);
    slots = each_slot (λ y x. y < 8 → IsCalm setup (suc k) x) (λ _. calm_then) (λ y differs inside. calm_more setup k (s.slot y) (d.slots y inside));
    square = λ e y l h inside.
        each_client (λ n p. 1 ≤ n → n ≤ setup.clients → AreSquare setup works n y p (m.slot y))
        (λ n out l' h'. each_slot (λ x (v : SlotState). x < 8 → AreSquare setup works n x (s.client n) v)
        (λ w. square_kept n out (d.square n i l' h' w)) (λ x differs w. d.square n x l' h' w) y inside)
        (λ n q has g l' h'. each_slot (λ x (v : SlotState). x < 8 → AreSquare setup works n x q v)
        (λ w. square_here n (s.client n) q g (d.square n i l' h' w)) (λ x differs w. square_there n (s.client n) q g x differs (d.square n x l' h' w)) y inside)
        e l h;
    legible = each_slot
        (λ y (v : SlotState). y < 8 → (x : BlockId) → slot_of x.ino.0 ≡ y → IsPlaceReadable setup works m x (entry_of v.index.rows x).place)
        (λ inside x of_slot. readable x (entry_of z.index.rows x).place (d.legible i inside x of_slot))
        (λ y differs inside x of_slot. readable x (entry_of (s.slot y).index.rows x).place (d.legible y inside x of_slot));
    shelved = λ v l h. all_shelved setup works s m (λ e. ap (λ (x : End). x.seq) (ends e)) (s.held v) (d.shelved v l h);
  }

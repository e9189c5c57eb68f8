-- What stays drained where one client has done something by itself.
use Rattle.std.proofs.Common.{◌≡◌, ℕ, suc, ◌<◌, ◌≤◌, ◌==◌, true, false, cond, All, List, length, Option, Some, None, refl, sym, ap, subst, ◌∙◌, arith}
use Rattle.std.proofs.lemmas.Bool.Decides.{nat_tests}
use Rattle.client_log.specs.Transition.{prior_from}
use Rattle.delta_index.specs.Index.{entry_of}
use Rattle.fragment_store.specs.ShelfState.{held_at}
use Rattle.node_base.specs.Room.{has_room}
use Rattle.segment_format.specs.Ranges.{FitsPrior}
use Rattle.segment_reading.specs.Reading.{is_known}
use Rattle.token_client.specs.declared.held.Held.{Held}
use Rattle.token_client.specs.State.{held_of}
use Rattle.token_manager.specs.SlotState.{SlotState}
use Rattle.version_model.specs.declared.work.Work.{Work}
use Rattle.xfs_base.specs.declared.block.BlockId.{BlockId}
use Rattle.xfs_base.specs.declared.entry.Place.{Place}
use Rattle.xfs_base.specs.declared.fragment.Fragment.{Fragment}
use Rattle.xfs_base.specs.declared.node.NodeId.{NodeId}
use Rattle.xfs_base.specs.declared.segment.End.{End}
use Rattle.xfs_base.specs.declared.segment.SegName.{SegName}
use Rattle.xfs_base.specs.declared.setup.Setup.{Setup}
use Rattle.quiet_law.specs.Drained.{AreSquare, Drained, IsCalm, IsIdle, IsLow, IsPlaceReadable, IsQuietBlock, IsShelved}
use Rattle.quiet_nodes.specs.Scene.{ClientPart, Scene, its_groups, put_number, with_client}
use Rattle.quiet_nodes.proofs.Begins.{HasRoom}

-- what holds of what is put, and of all else as it was, holds of all
pub put_each : {X : Type 0} (P : ℕ → X → Type 0) (f : ℕ → X) (n : ℕ) (x : X) → P n x → ((m : ℕ) → P m (f m)) → (m : ℕ) → P m (put_number f n x m)
put_each P f n x here others m =
    elim (m == n) as (λ b. (m == n) ≡ b → P m (cond b x (f m))) [
      | true ↦ λ same. subst (λ k. P k x) (sym (equal m n same)) here
      | false ↦ λ differs. others m
    ] refl
  where
    equal : (a c : ℕ) → (a == c) ≡ true → a ≡ c
    equal a c h = grind (arith, nat_tests)

pub lower : (k n : ℕ) → IsLow k n → IsLow (suc k) n
lower k n h = omega arith

pub low_room : (k n : ℕ) → k < 40000 → IsLow k n → n ≤ 4294901759
low_room k n h low = omega arith

pub room_of : (n : ℕ) → n ≤ 4294901759 → has_room n ≡ true
room_of n h = grind (arith, nat_tests)

pub quiet_more : (k : ℕ) (h : Held) → IsQuietBlock k h → IsQuietBlock (suc k) h
quiet_more k h q = record { want = q.want; fetch = q.fetch; giving = q.giving; owned = q.owned; low = lower k h.ver q.low; settled_low = q.settled_low }

pub calm_more : (setup : Setup) (k : ℕ) (z : SlotState) → IsCalm setup k z → IsCalm setup (suc k) z
calm_more setup k z c = record {
  epoch = c.epoch;
  jobs = c.jobs;
  alone = c.alone;
  believed = c.believed;
  ordered = c.ordered;
  applied = c.applied;
  counted = c.counted;
  rows_low = lower k (length z.index.rows) c.rows_low;
  turn_low = lower k z.turn c.turn_low;
  versions_low = λ b. lower k (entry_of z.index.rows b).ver (c.versions_low b);
}

pub idle_again : (k : ℕ) (p : ClientPart) → IsIdle k p → IsIdle (suc k) p
idle_again k p h = record {
  call = h.call;
  item = h.item;
  flight = h.flight;
  blocks = λ b. quiet_more k (held_of p.blocks b) (h.blocks b);
  few = h.few;
  waits = h.waits;
  fits = h.fits;
  filed = h.filed;
  acked = h.acked;
  asked_low = lower k p.asked h.asked_low;
  req_low = lower k p.req h.req_low;
  end_low = lower k p.end.seq h.end_low;
}

-- an idle client has room
pub idle_room : (setup : Setup) (works : NodeId → List Work) (c k : ℕ) (p : ClientPart) → k < 40000 → IsIdle k p → HasRoom setup works c p
idle_room setup works c k p few h = record {
  asked = room_of p.asked (low_room k p.asked few h.asked_low);
  req = room_of p.req (low_room k p.req few h.req_low);
  seq = room_of p.end.seq (low_room k p.end.seq few h.end_low);
  attempt = rw h.flight refl;
  again = rw h.call refl;
}

-- what is shelved stays so where the ends of logs are as they were
pub all_shelved : (setup : Setup) (works : NodeId → List Work) (s u : Scene) → ((e : ℕ) → (u.client e).end.seq ≡ (s.client e).end.seq) → (fs : List Fragment)
    → All (IsShelved setup works s) fs → All (IsShelved setup works u) fs
all_shelved setup works s u same fs all = λ i d less. one (all i d less)
  where
    one : {f : Fragment} → IsShelved setup works s f → IsShelved setup works u f
    one {f} h = record { of_log = h.of_log; known = h.known; filed = subst (λ n. f.meta.name.seq ≤ n) (sym (same f.meta.name.log.0)) h.filed }

-- what can be read at a place can be so where each server has still what it had
pub readable_as : (setup : Setup) (works : NodeId → List Work) (s u : Scene)
    → ((v : ℕ) (n : SegName) (x : Fragment) → held_at (s.held v) n ≡ Some x → held_at (u.held v) n ≡ Some x) → (b : BlockId) (o : Option Place)
    → IsPlaceReadable setup works s b o → IsPlaceReadable setup works u b o
readable_as setup works s u keeps b None h = tt
readable_as setup works s u keeps b (Some place) h = record {
  segment = h.segment;
  name = h.name;
  of_log = h.of_log;
  group_id = h.group_id;
  group = h.group;
  known = h.known;
  prior = h.prior;
  item = h.item;
  text = h.text;
  bytes = h.bytes;
  held = λ at within. keeps _ place.seg.name _ (h.held at within);
}

module _ (setup : Setup) (works : NodeId → List Work) (k : ℕ) (s : Scene) (c : ℕ) (q : ClientPart) (d : Drained setup works k s) (idle : IsIdle (suc k) q)
    (fed : q.fed ≡ q.end.seq) (end : q.end ≡ (s.client c).end) (least : 1 ≤ c) (most : c ≤ setup.clients)
    (square : (i : ℕ) → i < 8 → AreSquare setup works c i q (s.slot i)) where
  abbrev then_ : Scene
  then_ = with_client s c q

  ends : (e : ℕ) → (then_.client e).end ≡ (s.client e).end
  ends = put_each (λ e (p : ClientPart). p.end ≡ (s.client e).end) s.client c q end (λ e. refl)

  -- all stays drained where one client has done something by itself
  pub drained_client : Drained setup works (suc k) then_
  drained_client = record {
    clients = put_each (λ e p. 1 ≤ e → e ≤ setup.clients → IsIdle (suc k) p) s.client c q (λ least most. idle)
        (λ e least most. idle_again k (s.client e) (d.clients e least most));
    fed = put_each (λ e (p : ClientPart). 1 ≤ e → e ≤ setup.clients → p.fed ≡ p.end.seq) s.client c q (λ least most. fed) d.fed;
    linked = λ e l m. ap (λ x. is_known (its_groups setup works) (prior_from x)) (ends e) ∙ d.linked e l m;
    passes = λ e l m. subst (λ x. FitsPrior (prior_from x)) (sym (ends e)) (d.passes e l m);
    slots = λ i within. calm_more setup k (s.slot i) (d.slots i within);
    square = λ e i least most within.
        put_each (λ e p. 1 ≤ e → e ≤ setup.clients → AreSquare setup works e i p (s.slot i)) s.client c q (λ l m. square i within)
        (λ e l m. d.square e i l m within) e least most;
    legible = λ i within b of_slot. readable_as setup works s then_ (λ v n x is. is) b (entry_of (s.slot i).index.rows b).place (d.legible i within b of_slot);
    shelved = λ v l m. all_shelved setup works s then_ (λ e. ap (λ (x : End). x.seq) (ends e)) (s.held v) (d.shelved v l m);
  }

-- what is drained is so a step later, too
pub drained_more : (setup : Setup) (works : NodeId → List Work) (k : ℕ) (s : Scene) → Drained setup works k s → Drained setup works (suc k) s
drained_more setup works k s d = record {
  clients = λ c least most. idle_again k (s.client c) (d.clients c least most);
  fed = d.fed;
  linked = d.linked;
  passes = d.passes;
  slots = λ i within. calm_more setup k (s.slot i) (d.slots i within);
  square = d.square;
  legible = d.legible;
  shelved = d.shelved;
}

-- What is drained once a client's segment is kept by all members of its group and told to all slots: all is as before but for that client, the shelves of the
-- members and the slots' indexes, and each place that these name can be read.
use Rattle.std.proofs.Common.{◌≡◌, ℕ, suc, ◌+◌, ◌<◌, ◌≤◌, ◌&&◌, ◌||◌, Bool, true, false, All, List, [], ◌∷◌, map, Option, Some, None, is_some, refl, sym, ap, subst, ◌∙◌, arith}
use Rattle.std.specs.Prelude.{nat_eq}
use Rattle.std.specs.List.{AllByRecursion, IsDistinct}
use Rattle.std.proofs.lemmas.List.Elements.{All-head, All-tail}
use Rattle.client_log.specs.Transition.{end_of, prior_from}
use Rattle.delta_feed.specs.Transition.{slot_rows}
use Rattle.delta_index.specs.Index.{entry_of}
use Rattle.fragment_store.specs.ShelfState.{held_at}
use Rattle.group_map.specs.declared.group.Group.{Group}
use Rattle.group_map.specs.declared.group.Member.{Member}
use Rattle.group_map.specs.Groups.{group_of}
use Rattle.log_flight.specs.Flights.{FlightState}
use Rattle.log_flight.specs.Fragments.{flight_fragment}
use Rattle.node_base.specs.Known.{knows_meta}
use Rattle.node_base.specs.Maps.{maps_start, knows_prior}
use Rattle.node_base.specs.Shape.{is_meta, is_name}
use Rattle.quiet_flow.proofs.Places.{has_fact}
use Rattle.segment_format.specs.Ranges.{FitsPrior}
use Rattle.segment_reading.specs.Reading.{is_known}
use Rattle.slot_beliefs.specs.Index.{merge_all}
use Rattle.token_manager.specs.SlotState.{SlotState}
use Rattle.version_model.specs.declared.work.Work.{Work}
use Rattle.xfs_base.proofs.Alls.{all_filter, all_weaker}
use Rattle.xfs_base.proofs.Booleans.{by_test}
use Rattle.xfs_base.proofs.SegmentNames.{one_name}
use Rattle.xfs_base.specs.Blocks.{slot_of}
use Rattle.xfs_base.specs.declared.block.BlockId.{BlockId}
use Rattle.xfs_base.specs.declared.entry.Entry.{Entry}
use Rattle.xfs_base.specs.declared.entry.Place.{Place}
use Rattle.xfs_base.specs.declared.fragment.FragMeta.{FragMeta}
use Rattle.xfs_base.specs.declared.fragment.Fragment.{Fragment}
use Rattle.xfs_base.specs.declared.node.NodeId.{NodeId}
use Rattle.xfs_base.specs.declared.node.NodeId.TheVariants.{Server}
use Rattle.xfs_base.specs.declared.segment.End.{End}
use Rattle.xfs_base.specs.declared.segment.SegName.{SegName}
use Rattle.xfs_base.specs.declared.segment.SegRef.{SegRef}
use Rattle.xfs_base.specs.declared.setup.Setup.{Setup}
use Rattle.xfs_base.specs.Segments.{same_name}
use Rattle.quiet_law.specs.Drained.{AreSquare, Drained, IsCalm, IsIdle, IsPlaceReadable, IsShelved}
use Rattle.quiet_nodes.specs.Layers.{IsFirst, with_pieces}
use Rattle.quiet_nodes.specs.Scene.{ClientPart, Scene, its_groups}
use Rattle.quiet_nodes.proofs.Shelves.{IsNew, pieces_all, pieces_have, pieces_keep}
use Rattle.quiet_nodes.proofs.StoreLayer.{IsTaken, meta_is}
use Rattle.quiet_law.proofs.Changing.{each_of}
use Rattle.quiet_law.proofs.Keeping.{idle_again, readable_as}
use Rattle.quiet_law.proofs.Spelling.{IsSpelled}
use Rattle.quiet_law.proofs.Rows.{AreLying, IsLying}
use Rattle.quiet_law.proofs.Told.{indexed_each}

module _ (setup : Setup) (works : NodeId → List Work) (k : ℕ) (s u : Scene) (c : ℕ) (q : ClientPart) (z : ℕ → SlotState) (f : FlightState)
    (rows : List (BlockId × Entry)) (d : Drained setup works k s) (least : 1 ≤ c) (most : c ≤ setup.clients) where
  abbrev seg : SegName
  seg = f.segment.name

  -- the segment is the next one of the client's log, over a group of the setup, and its rows name Blocks in it
  pub record IsNext : Type 0 where
    pub log : seg.log.0 ≡ c
    pub seq : seg.seq ≡ (s.client c).end.seq + 1
    pub end : q.end ≡ end_of f.segment
    pub taken : IsTaken setup works f
    pub group : group_of (its_groups setup works) f.segment.group ≡ Some f.group
    pub prior : is_known (its_groups setup works) f.segment.prior ≡ true
    pub lying : AreLying f.segment rows
    pub spelled : IsSpelled f.segment
    pub end_fits : FitsPrior (prior_from (end_of f.segment))
    pub each : AllByRecursion (IsFirst setup) f.group.members
    pub differ : IsDistinct nat_eq (map (λ (m : Member). m.server) f.group.members)

  -- the next scene
  pub record IsTold : Type 0 where
    pub clients : (e : ℕ) → (e ≡ c → ⊥) → u.client e ≡ s.client e
    pub client : u.client c ≡ q
    pub slots : (i : ℕ) → i < 8 → u.slot i ≡ z i
    pub held : (v : ℕ) → u.held v ≡ with_pieces setup works s.held f f.group.members 0 v
    pub entries : (i : ℕ) → i < 8 → (z i).index.rows ≡ (merge_all (s.slot i).index (slot_rows i rows)).rows

  -- what of it is as it should be
  pub record AreRight : Type 0 where
    pub idle : IsIdle (suc k) q
    pub fed : q.fed ≡ q.end.seq
    pub calm : (i : ℕ) → i < 8 → IsCalm setup (suc k) (z i)
    pub square : (i : ℕ) → i < 8 → AreSquare setup works c i q (z i)
    pub theirs : (e : ℕ) → (e ≡ c → ⊥) → 1 ≤ e → e ≤ setup.clients → (i : ℕ) → i < 8 → AreSquare setup works e i (s.client e) (z i)

  module _ (next : IsNext) (told : IsTold) (right : AreRight) where
    each_client : (P : ℕ → ClientPart → Type 0) → P c q → ((e : ℕ) → (e ≡ c → ⊥) → P e (s.client e)) → (e : ℕ) → P e (u.client e)
    each_client = each_of s.client u.client c q told.clients told.client

    -- ---- shelves

    end_is : q.end.seq ≡ (s.client c).end.seq + 1
    end_is = ap (λ (x : End). x.seq) next.end ∙ next.seq

    ends_rise : (e : ℕ) → (s.client e).end.seq ≤ (u.client e).end.seq
    ends_rise = each_client (λ e p. (s.client e).end.seq ≤ p.end.seq) (let is = end_is in omega arith) (λ e differs. omega arith)

    not_yet : (g : Fragment) → IsShelved setup works s g → seg ≡ g.meta.name → ⊥
    not_yet g shelved same =
        let filed : g.meta.name.seq ≤ (s.client c).end.seq =
        subst (λ l. g.meta.name.seq ≤ (s.client l).end.seq) (ap (λ (n : SegName). n.log.0) (sym same) ∙ next.log) shelved.filed in
        let here : g.meta.name.seq ≡ (s.client c).end.seq + 1 = ap (λ (n : SegName). n.seq) (sym same) ∙ next.seq in omega arith

    none_named : (gs : List Fragment) → All (IsShelved setup works s) gs → held_at gs seg ≡ None
    none_named [] all = refl
    none_named (g ∷ gs) all =
        by_test (λ (o : Option Fragment). o ≡ None) (same_name seg g.meta.name) (Some g) (held_at gs seg)
        (λ same. absurd (not_yet g (All-head (IsShelved setup works s) g gs all) (one_name seg g.meta.name same)))
        (λ _. none_named gs (All-tail (IsShelved setup works s) g gs all))

    all_new : (ms : List Member) → AllByRecursion (IsFirst setup) ms → AllByRecursion (IsNew setup works f s.held) ms
    all_new [] each = tt
    all_new (m ∷ ms) each =
        let has = has_fact setup (Server m.server) each.0.1 in
        (none_named (s.held m.server) (d.shelved m.server has.0 has.1), all_new ms each.1)

    shelved_up : (g : Fragment) → IsShelved setup works s g → IsShelved setup works u g
    shelved_up g h = record {
      of_log = h.of_log;
      known = h.known;
      filed = (let low = h.filed in let more = ends_rise g.meta.name.log.0 in omega arith);
    }

    its_meta : (place : ℕ) → (flight_fragment f.segment f.group place).meta.name ≡ seg
    its_meta place = ap (λ (m : FragMeta). m.name) (meta_is f place)

    piece_shelved : (place : ℕ) → IsShelved setup works u (flight_fragment f.segment f.group place)
    piece_shelved place = record {
      of_log = ap is_meta (meta_is f place) ∙ next.taken.of_log;
      known =
          ap (knows_meta (maps_start (its_groups setup works))) (meta_is f place)
          ∙ ap (λ t. t && knows_prior (maps_start (its_groups setup works)) f.segment.prior) next.taken.group
          ∙ next.taken.prior;
      filed = subst (λ (n : SegName). n.seq ≤ (u.client n.log.0).end.seq) (sym (its_meta place))
          (subst (λ l. seg.seq ≤ (u.client l).end.seq) (sym next.log)
          (subst (λ (p : ClientPart). seg.seq ≤ p.end.seq) (sym told.client) (let is = end_is in let seq = next.seq in omega arith)));
    }

    shelved_then : (v : ℕ) → 1 ≤ v → v ≤ setup.servers → All (IsShelved setup works u) (u.held v)
    shelved_then v l m =
        subst (All (IsShelved setup works u)) (sym (told.held v))
        (pieces_all setup works f (IsShelved setup works u) piece_shelved f.group.members 0 s.held v
        (λ w same. λ i x less. shelved_up _ (subst (λ n. All (IsShelved setup works s) (s.held n)) (sym same) (d.shelved v l m) i x less)))

    -- ---- places

    still_held : (v : ℕ) (n : SegName) (x : Fragment) → held_at (s.held v) n ≡ Some x → held_at (u.held v) n ≡ Some x
    still_held v n x is = ap (λ fs. held_at fs n) (told.held v) ∙ pieces_keep setup works f f.group.members 0 s.held v n x is

    from_none : (n : ℕ) → 0 + n ≡ n
    from_none n = omega arith

    new_readable : (b : BlockId) (o : Option Place) → IsLying f.segment b o → IsPlaceReadable setup works u b o
    new_readable b None lies = tt
    new_readable b (Some place) lies = record {
      segment = f.segment;
      name = ap (λ (r : SegRef). r.name) (sym lies.0);
      of_log = ap (λ (r : SegRef). is_name r.name) lies.0 ∙ next.taken.of_log;
      group_id = ap (λ (r : SegRef). r.group) (sym lies.0);
      group = f.group;
      known = next.group;
      prior = next.prior;
      item = lies.1;
      text = next.spelled.text;
      bytes = next.spelled.bytes;
      held = λ at within.
          ap (held_at (u.held _)) (ap (λ (r : SegRef). r.name) lies.0)
          ∙ ap (λ fs. held_at fs seg) (told.held _)
          ∙ pieces_have setup works f f.group.members 0 s.held next.differ (all_new f.group.members next.each) at within
          ∙ ap (λ n. Some (flight_fragment f.segment f.group n)) (from_none at);
    }

    legible_then : (i : ℕ) → i < 8 → (b : BlockId) → slot_of b.ino.0 ≡ i → IsPlaceReadable setup works u b (entry_of (u.slot i).index.rows b).place
    legible_then i within b of_slot =
        subst (λ (x : SlotState). IsPlaceReadable setup works u b (entry_of x.index.rows b).place) (sym (told.slots i within))
        (subst (λ rs. IsPlaceReadable setup works u b (entry_of rs b).place) (sym (told.entries i within))
        (indexed_each (λ x e. slot_of x.ino.0 ≡ i → IsPlaceReadable setup works u x e.place) (slot_rows i rows) (s.slot i).index
        (all_weaker (λ (row : BlockId × Entry). IsLying f.segment row.0 row.1.place)
        (λ (row : BlockId × Entry). slot_of row.0.ino.0 ≡ i → IsPlaceReadable setup works u row.0 row.1.place)
        (λ row lies _. new_readable row.0 row.1.place lies) (slot_rows i rows)
        (all_filter (λ (row : BlockId × Entry). IsLying f.segment row.0 row.1.place) _ rows next.lying))
        (λ x of_it. readable_as setup works s u still_held x (entry_of (s.slot i).index.rows x).place (d.legible i within x of_it)) b of_slot))

    or_some : (t : Bool) (o : Option Group) (g : Group) → o ≡ Some g → (t || is_some o) ≡ true
    or_some true o g is = refl
    or_some false o g is = ap is_some is

    -- ---- all

    pub drained_sealed : Drained setup works (suc k) u
    drained_sealed = record {
      clients = each_client (λ e p. 1 ≤ e → e ≤ setup.clients → IsIdle (suc k) p) (λ l m. right.idle) (λ e differs l m. idle_again k (s.client e) (d.clients e l m));
      fed = each_client (λ e (p : ClientPart). 1 ≤ e → e ≤ setup.clients → p.fed ≡ p.end.seq) (λ l m. right.fed) (λ e differs. d.fed e);
      linked = each_client (λ e (p : ClientPart). 1 ≤ e → e ≤ setup.clients → is_known (its_groups setup works) (prior_from p.end) ≡ true)
          (λ l m. ap (λ (x : End). is_known (its_groups setup works) (prior_from x)) next.end ∙ or_some _ (group_of (its_groups setup works) f.segment.group) f.group next.group)
          (λ e differs. d.linked e);
      passes = each_client (λ e (p : ClientPart). 1 ≤ e → e ≤ setup.clients → FitsPrior (prior_from p.end))
          (λ l m. subst (λ (x : End). FitsPrior (prior_from x)) (sym next.end) next.end_fits) (λ e differs. d.passes e);
      slots = λ i within. subst (IsCalm setup (suc k)) (sym (told.slots i within)) (right.calm i within);
      square = λ e i l m within.
          subst (AreSquare setup works e i (u.client e)) (sym (told.slots i within))
          (each_client (λ e p. 1 ≤ e → e ≤ setup.clients → AreSquare setup works e i p (z i)) (λ _ _. right.square i within)
          (λ e differs l m. right.theirs e differs l m i within) e l m);
      legible = legible_then;
      shelved = shelved_then;
    }

-- What shelves hold once each member of a group keeps its fragment of a new segment: what they held before, and each member its fragment.
use Rattle.std.proofs.Common.{◌≡◌, ℕ, zero, suc, ◌+◌, ◌<◌, ◌==◌, true, false, cond, List, [], ◌∷◌, map, length, Option, Some, None, is_some, refl, sym, ap, ◌∙◌, arith}
use Rattle.std.specs.Prelude.{All, nat_eq, slice_index_or}
use Rattle.std.specs.List.{AllByRecursion, IsDistinct}
use Rattle.std.proofs.lemmas.Bool.{false≢true}
use Rattle.std.proofs.lemmas.Bool.Decides.{nat_tests}
use Rattle.std.proofs.lemmas.List.Elements.{All-cons, All-head, All-tail}
use Rattle.fragment_store.proofs.Tables.{held-with}
use Rattle.fragment_store.specs.Calls.{shelf_store, with_fragment}
use Rattle.fragment_store.specs.ShelfState.{held_at, is_held}
use Rattle.group_map.specs.declared.group.Member.{Member}
use Rattle.log_flight.specs.Flights.{FlightState, no_member}
use Rattle.log_flight.specs.Fragments.{flight_fragment}
use Rattle.version_model.specs.declared.work.Work.{Work}
use Rattle.xfs_base.proofs.Booleans.{by_test}
use Rattle.xfs_base.proofs.SegmentNames.{one_name, same_itself}
use Rattle.xfs_base.specs.declared.fragment.Fragment.{Fragment}
use Rattle.xfs_base.specs.declared.fragment.FragMeta.{FragMeta}
use Rattle.xfs_base.specs.declared.node.NodeId.{NodeId}
use Rattle.xfs_base.specs.declared.segment.SegName.{SegName}
use Rattle.xfs_base.specs.declared.setup.Setup.{Setup}
use Rattle.xfs_base.specs.Segments.{same_name, seg_cmp}
use Rattle.xfs_base.specs.Stamps.{is_greater}
use Rattle.quiet_nodes.specs.Layers.{kept_by, with_piece, with_pieces}
use Rattle.quiet_nodes.specs.Scene.{shelf_at}
use Rattle.quiet_nodes.proofs.StoreLayer.{meta_is}

-- ---- one shelf

none_there : {X : Type 0} (o : Option X) → is_some o ≡ false → o ≡ None
none_there None h = refl
none_there (Some x) h = absurd (false≢true (sym h))

module _ (P : Fragment → Type 0) (g : Fragment) (here : P g) where
  all_with : (fs : List Fragment) → All P fs → All P (with_fragment g fs)
  all_with [] all = All-cons P g [] here all
  all_with (f ∷ fs) all =
      by_test (All P) (is_greater (seg_cmp g.meta.name f.meta.name)) (f ∷ with_fragment g fs) (g ∷ f ∷ fs)
      (λ _. All-cons P f (with_fragment g fs) (All-head P f fs all) (all_with fs (All-tail P f fs all)))
      (λ _. All-cons P g (f ∷ fs) here all)

module _ (setup : Setup) (works : NodeId → List Work) where
  module _ (fs : List Fragment) (g : Fragment) where
    abbrev then_ : List Fragment
    then_ = (shelf_store (shelf_at setup works fs) g).held

    by_held : (P : List Fragment → Type 0) → (is_held (shelf_at setup works fs) g.meta.name ≡ true → P fs)
        → (is_held (shelf_at setup works fs) g.meta.name ≡ false → P (with_fragment g fs)) → P then_
    by_held P has hasn't =
        elim (is_held (shelf_at setup works fs) g.meta.name) as
        (λ t. is_held (shelf_at setup works fs) g.meta.name ≡ t → P (cond t (shelf_at setup works fs) (shelf_at setup works (with_fragment g fs))).held)
        [ true ↦ has | false ↦ hasn't ] refl

    -- what was held is held
    shelf_keeps : (name : SegName) (x : Fragment) → held_at fs name ≡ Some x → held_at then_ name ≡ Some x
    shelf_keeps name x held =
        by_held (λ now. held_at now name ≡ Some x) (λ _. held)
        (λ hasn't.
        let none = none_there (held_at fs g.meta.name) hasn't in
        held-with g fs name none
        ∙ by_test (λ (o : Option Fragment). o ≡ Some x) (same_name name g.meta.name) (Some g) (held_at fs name)
        (λ same. let no : None ≡ Some x = sym none ∙ ap (held_at fs) (sym (one_name name g.meta.name same)) ∙ held in absurd (cc))
        (λ _. held))

    -- and the new one
    shelf_has : held_at fs g.meta.name ≡ None → held_at then_ g.meta.name ≡ Some g
    shelf_has none =
        by_held (λ now. held_at now g.meta.name ≡ Some g)
        (λ has. absurd (false≢true (sym (ap is_some none) ∙ has)))
        (λ _. held-with g fs g.meta.name none ∙ ap (λ t. cond t (Some g) (held_at fs g.meta.name)) (same_itself g.meta.name))

    shelf_all : (P : Fragment → Type 0) → P g → All P fs → All P then_
    shelf_all P here all = by_held (All P) (λ _. all) (λ _. all_with P g here fs all)

  -- ---- all shelves

  module _ (f : FlightState) where
    abbrev name : SegName
    name = f.segment.name

    its_name : (place : ℕ) → (flight_fragment f.segment f.group place).meta.name ≡ name
    its_name place = ap (λ (m : FragMeta). m.name) (meta_is f place)

    equal : (a c : ℕ) → (a == c) ≡ true → a ≡ c
    equal a c h = grind (arith, nat_tests)

    unequal : (a c : ℕ) → (a == c) ≡ false → a ≡ c → ⊥
    unequal a c h same = grind (arith, nat_tests)

    -- what a shelf holds, of the one that is changed and of another
    at_shelf : (held : ℕ → List Fragment) (m : Member) (place v : ℕ) (P : List Fragment → Type 0) → (v ≡ m.server → P (kept_by setup works held f m place))
        → ((v ≡ m.server → ⊥) → P (held v)) → P (with_piece setup works held f m place v)
    at_shelf held m place v P here other =
        by_test P (v == m.server) (kept_by setup works held f m place) (held v) (λ same. here (equal v m.server same)) (λ differs. other (unequal v m.server differs))

    one_keeps : (held : ℕ → List Fragment) (m : Member) (place v : ℕ) (n : SegName) (x : Fragment) → held_at (held v) n ≡ Some x
        → held_at (with_piece setup works held f m place v) n ≡ Some x
    one_keeps held m place v n x is =
        at_shelf held m place v (λ fs. held_at fs n ≡ Some x)
        (λ same. shelf_keeps (held m.server) (flight_fragment f.segment f.group place) n x (ap (λ w. held_at (held w) n) (sym same) ∙ is)) (λ _. is)

    pub pieces_keep : (ms : List Member) (place : ℕ) (held : ℕ → List Fragment) (v : ℕ) (n : SegName) (x : Fragment) → held_at (held v) n ≡ Some x
        → held_at (with_pieces setup works held f ms place v) n ≡ Some x
    pieces_keep [] place held v n x is = is
    pieces_keep (m ∷ ms) place held v n x is =
        pieces_keep ms (place + 1) (with_piece setup works held f m place) v n x (one_keeps held m place v n x is)

    pub pieces_all : (P : Fragment → Type 0) → ((place : ℕ) → P (flight_fragment f.segment f.group place)) → (ms : List Member) (place : ℕ) (held : ℕ → List Fragment) (v : ℕ)
        → ((w : ℕ) → w ≡ v → All P (held w)) → All P (with_pieces setup works held f ms place v)
    pieces_all P here [] place held v all = all v refl
    pieces_all P here (m ∷ ms) place held v all =
        pieces_all P here ms (place + 1) (with_piece setup works held f m place) v
        (λ w same. at_shelf held m place w (All P) (λ is. shelf_all (held m.server) (flight_fragment f.segment f.group place) P (here place) (all m.server (sym is ∙ same)))
        (λ _. all w same))

    abbrev pub IsNew : (ℕ → List Fragment) → Member → Type 0
    IsNew held m = held_at (held m.server) name ≡ None

    still_new : (held : ℕ → List Fragment) (m : Member) (place : ℕ) (ms : List Member) → AllByRecursion (λ y. nat_eq m.server y ≡ false) (map (λ (x : Member). x.server) ms)
        → AllByRecursion (IsNew held) ms → AllByRecursion (IsNew (with_piece setup works held f m place)) ms
    still_new held m place [] differ new = tt
    still_new held m place (n ∷ ms) differ new = (
      at_shelf held m place n.server (λ fs. held_at fs name ≡ None) (λ same. absurd (apart m.server n.server differ.0 (sym same))) (λ _. new.0),
      still_new held m place ms differ.1 new.1,
    )
      where
        apart : (a c : ℕ) → nat_eq a c ≡ false → a ≡ c → ⊥
        apart a c differs same = grind (arith, nat_tests)

    -- each member has its fragment
    pub pieces_have : (ms : List Member) (place : ℕ) (held : ℕ → List Fragment) → IsDistinct nat_eq (map (λ (x : Member). x.server) ms) → AllByRecursion (IsNew held) ms
        → (at : ℕ) → at < length ms
        → held_at (with_pieces setup works held f ms place (slice_index_or ms at no_member).server) name ≡ Some (flight_fragment f.segment f.group (place + at))
    unfolding IsDistinct
    pieces_have [] place held differ new at within = absurd (omega arith)
    pieces_have (m ∷ ms) place held differ new zero within =
        pieces_keep ms (place + 1) (with_piece setup works held f m place) m.server name (flight_fragment f.segment f.group (place + 0))
        (at_shelf held m place m.server (λ fs. held_at fs name ≡ Some (flight_fragment f.segment f.group (place + 0)))
        (λ _. first) (λ differs. absurd (differs refl)))
      where
        first : held_at (kept_by setup works held f m place) name ≡ Some (flight_fragment f.segment f.group (place + 0))
        first =
            ap (held_at (kept_by setup works held f m place)) (sym (its_name place))
            ∙ shelf_has (held m.server) (flight_fragment f.segment f.group place) (ap (held_at (held m.server)) (its_name place) ∙ new.0)
            ∙ ap (λ n. Some (flight_fragment f.segment f.group n)) (none_more place)
          where
            none_more : (n : ℕ) → n ≡ n + 0
            none_more n = omega arith
    pieces_have (m ∷ ms) place held differ new (suc at) within =
        pieces_have ms (place + 1) (with_piece setup works held f m place) differ.1 (still_new held m place ms differ.0 new.1) at (omega arith)
        ∙ ap (λ n. Some (flight_fragment f.segment f.group n)) (one_more place at)
      where
        one_more : (n k : ℕ) → (n + 1) + k ≡ n + suc k
        one_more n k = omega arith

-- To delete again what was deleted changes nothing.
use Rattle.std.proofs.Common.{◌≡◌, Bool, true, false, cond, List, [], ◌∷◌, Some, None, filter, refl, sym, ap, ◌∙◌}
use Rattle.std.specs.Prelude.{not, is_some, ◌||◌}
use Rattle.std.specs.declared.cmp.Ordering.TheVariants.{Less, Equal, Greater}
use Rattle.std.specs.Ordering.{is_eq, match_ordering, ordering_reverse}
use Rattle.std.specs.BTreeSet.{insert_key}
use Rattle.std.specs.List.{AllByRecursion}
use Rattle.std.specs.List.Sorted.{IsStrictlySortedBy}
use Rattle.xfs_base.specs.declared.fragment.Fragment.{Fragment}
use Rattle.xfs_base.specs.declared.segment.SegName.{SegName}
use Rattle.xfs_base.specs.Segments.{seg_cmp}
use Rattle.xfs_base.specs.Stamps.{is_greater}
use Rattle.xfs_base.proofs.Booleans.{contrary}
use Rattle.xfs_base.proofs.Orders.{seg_cmp_total}
use Rattle.fragment_store.specs.ShelfState.{ShelfState, same_name, held_at, is_marked}
use Rattle.fragment_store.specs.Calls.{on_delete}
use Rattle.fragment_store.specs.Histories.{DeletedAreAway}
use Rattle.xfs_base.proofs.SegmentNames.{one_name}

-- a name among those that are greater than another is greater too
greater_too : (first name : SegName) (names : List SegName) → AllByRecursion (λ n. seg_cmp first n ≡ Less) names → is_marked names name ≡ true
    → seg_cmp first name ≡ Less
greater_too first name [] below h = contrary h
greater_too first name (n ∷ ns) below h = by (same_name name n) refl (λ k. greater_too first name ns below.1 k) h
  where
    by : (t : Bool) → same_name name n ≡ t → (is_marked ns name ≡ true → seg_cmp first name ≡ Less) → (t || is_marked ns name) ≡ true
        → seg_cmp first name ≡ Less
    by true e more k = ap (seg_cmp first) (one_name name n e) ∙ below.0
    by false e more k = more k

-- a name that is there is not put in twice
put_again : (name : SegName) (names : List SegName) → IsStrictlySortedBy seg_cmp names → is_marked names name ≡ true → insert_key seg_cmp names name ≡ names
unfolding IsStrictlySortedBy
put_again name [] sorted h = contrary h
put_again name (n ∷ ns) sorted h =
    elim (seg_cmp name n) as
    (λ o. seg_cmp name n ≡ o → (is_eq o || is_marked ns name) ≡ true
    → match_ordering o (name ∷ n ∷ ns) (n ∷ ns) (n ∷ insert_key seg_cmp ns name) ≡ n ∷ ns) [
      | Less ↦ λ e k. contrary (sym (ap is_greater e)
          ∙ ap is_greater (seg_cmp_total.antisymm name n ∙ ap ordering_reverse (greater_too n name ns sorted.0 k)))
      | Equal ↦ λ e k. refl
      | Greater ↦ λ e k. ap (λ xs. n ∷ xs) (put_again name ns sorted.1 k)
    ] refl h

-- nothing leaves where nothing of the name is held
none_leaves : (name : SegName) (fs : List Fragment) → held_at fs name ≡ None → filter (λ f. not (same_name name f.meta.name)) fs ≡ fs
none_leaves name [] h = refl
none_leaves name (f ∷ fs) h = by (same_name name f.meta.name) (λ k. none_leaves name fs k) h
  where
    by : (t : Bool) → (held_at fs name ≡ None → filter (λ g. not (same_name name g.meta.name)) fs ≡ fs) → cond t (Some f) (held_at fs name) ≡ None
        → cond (not t) (f ∷ filter (λ g. not (same_name name g.meta.name)) fs) (filter (λ g. not (same_name name g.meta.name)) fs) ≡ f ∷ fs
    by true more k = contrary (sym (ap is_some k))
    by false more k = ap (λ gs. f ∷ gs) (more k)

pub deleted_again : (s : ShelfState) (name : SegName) → IsStrictlySortedBy seg_cmp s.marks → DeletedAreAway s → is_marked s.marks name ≡ true
    → on_delete s name ≡ s
deleted_again s name sorted away marked =
    let shelf : List Fragment → List SegName → ShelfState = λ held marks. record s { held = held; marks = marks } in
    ap (λ held. shelf held (insert_key seg_cmp s.marks name)) (none_leaves name s.held (away name marked)) ∙ ap (shelf s.held) (put_again name s.marks sorted marked)

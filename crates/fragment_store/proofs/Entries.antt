-- The table of a shelf is its fragments under their names: what looking up, inserting and removing do to them.
use Rattle.std.proofs.Common.{◌≡◌, Bool, true, false, cond, List, [], ◌∷◌, Option, Some, None, map, filter, refl, sym, ap, subst, ◌∙◌}
use Rattle.std.specs.Prelude.{not, is_some}
use Rattle.std.specs.declared.cmp.Ordering.TheVariants.{Less, Equal, Greater}
use Rattle.std.specs.Ordering.{is_eq, match_ordering}
use Rattle.std.specs.Map.{lookup, keys_of, values_of, remove_entry}
use Rattle.std.specs.BTreeMap.{is_at, insert_entry}
use Rattle.std.specs.List.{AllByRecursion}
use Rattle.std.specs.List.Sorted.{IsStrictlySortedBy}
use Rattle.xfs_base.specs.declared.fragment.Fragment.{Fragment}
use Rattle.xfs_base.specs.declared.segment.SegName.{SegName}
use Rattle.xfs_base.specs.Segments.{seg_cmp}
use Rattle.xfs_base.specs.Stamps.{is_greater}
use Rattle.xfs_base.proofs.Booleans.{contrary}
use Rattle.xfs_base.proofs.Orders.{seg_cmp_total}
use Rattle.xfs_base.proofs.Sorted.{sorted_insert, sorted_remove}
use Rattle.fragment_store.specs.ShelfState.{same_name, held_at, is_marked, entries_of, IsShelf}
use Rattle.fragment_store.specs.Calls.{with_fragment}
use Rattle.xfs_base.proofs.SegmentNames.{one_name}

pub values-entries : (fs : List Fragment) → values_of (entries_of fs) ≡ fs
values-entries [] = refl
values-entries (f ∷ fs) = ap (λ gs. f ∷ gs) (values-entries fs)

pub keys-entries : (fs : List Fragment) → keys_of (entries_of fs) ≡ map (λ f. f.meta.name) fs
keys-entries [] = refl
keys-entries (f ∷ fs) = ap (λ ns. f.meta.name ∷ ns) (keys-entries fs)

-- a table that is some fragments under their names is its own
pub named_by : (es : List (SegName × Fragment)) (fs : List Fragment) → es ≡ entries_of fs → es ≡ entries_of (values_of es)
named_by es fs e = e ∙ ap entries_of (sym (values-entries fs)) ∙ ap (λ xs. entries_of (values_of xs)) (sym e)

pub lookup-entries : (name : SegName) (fs : List Fragment) → lookup (is_at (seg_cmp name)) (entries_of fs) ≡ held_at fs name
lookup-entries name [] = refl
lookup-entries name (f ∷ fs) = ap (cond (same_name name f.meta.name) (Some f)) (lookup-entries name fs)

pub lookup-named : (es : List (SegName × Fragment)) (name : SegName) → es ≡ entries_of (values_of es)
    → lookup (is_at (seg_cmp name)) es ≡ held_at (values_of es) name
lookup-named es name e = ap (lookup (is_at (seg_cmp name))) e ∙ lookup-entries name (values_of es)

insert-entries : (f : Fragment) (fs : List Fragment) → held_at fs f.meta.name ≡ None
    → insert_entry seg_cmp (entries_of fs) f.meta.name f ≡ entries_of (with_fragment f fs)
insert-entries f [] h = refl
insert-entries f (g ∷ gs) h =
    elim (seg_cmp f.meta.name g.meta.name) as
    (λ o. cond (is_eq o) (Some g) (held_at gs f.meta.name) ≡ None
    → match_ordering o ((f.meta.name, f) ∷ (g.meta.name, g) ∷ entries_of gs) ((g.meta.name, f) ∷ entries_of gs)
    ((g.meta.name, g) ∷ insert_entry seg_cmp (entries_of gs) f.meta.name f) ≡ entries_of (cond (is_greater o) (g ∷ with_fragment f gs) (f ∷ g ∷ gs))) [
      | Less ↦ λ k. refl
      | Equal ↦ λ k. contrary (sym (ap is_some k))
      | Greater ↦ λ k. ap (λ es. (g.meta.name, g) ∷ es) (insert-entries f gs k)
    ] h

-- nothing is removed where no name is this one
keeps_all : (name : SegName) (fs : List Fragment) → AllByRecursion (λ n. same_name name n ≡ false) (keys_of (entries_of fs))
    → filter (λ f. not (same_name name f.meta.name)) fs ≡ fs
keeps_all name [] h = refl
keeps_all name (f ∷ fs) h =
    ap (λ b. cond (not b) (f ∷ filter (λ g. not (same_name name g.meta.name)) fs) (filter (λ g. not (same_name name g.meta.name)) fs)) h.0
    ∙ ap (λ gs. f ∷ gs) (keeps_all name fs h.1)

others : (name first : SegName) (names : List SegName) → name ≡ first → AllByRecursion (λ n. seg_cmp first n ≡ Less) names
    → AllByRecursion (λ n. same_name name n ≡ false) names
others name first [] e h = tt
others name first (n ∷ ns) e h = (ap (λ m. same_name m n) e ∙ ap is_eq h.0, others name first ns e h.1)

remove-entries : (name : SegName) (fs : List Fragment) → IsStrictlySortedBy seg_cmp (keys_of (entries_of fs))
    → remove_entry (is_at (seg_cmp name)) (entries_of fs) ≡ entries_of (filter (λ f. not (same_name name f.meta.name)) fs)
unfolding IsStrictlySortedBy
remove-entries name [] sorted = refl
remove-entries name (f ∷ fs) sorted = by (remove-entries name fs sorted.1) (same_name name f.meta.name) refl
  where
    by : remove_entry (is_at (seg_cmp name)) (entries_of fs) ≡ entries_of (filter (λ g. not (same_name name g.meta.name)) fs) → (t : Bool)
        → same_name name f.meta.name ≡ t
        → cond t (entries_of fs) ((f.meta.name, f) ∷ remove_entry (is_at (seg_cmp name)) (entries_of fs)) ≡ entries_of
        (cond (not t) (f ∷ filter (λ g. not (same_name name g.meta.name)) fs) (filter (λ g. not (same_name name g.meta.name)) fs))
    by rest true e = ap entries_of (sym (keeps_all name fs (others name f.meta.name (keys_of (entries_of fs)) (one_name name f.meta.name e) sorted.0)))
    by rest false e = ap (λ es. (f.meta.name, f) ∷ es) rest

-- ---- the table of a shelf after an insertion and after a removal

module _ (es : List (SegName × Fragment)) (marks : List SegName) (h : IsShelf es marks) where
  pub table_with : (f : Fragment) → lookup (is_at (seg_cmp f.meta.name)) es ≡ None
      → insert_entry seg_cmp es f.meta.name f ≡ entries_of (with_fragment f (values_of es))
  table_with f none =
      ap (λ xs. insert_entry seg_cmp xs f.meta.name f) h.named ∙ insert-entries f (values_of es) (sym (lookup-named es f.meta.name h.named) ∙ none)

  pub held-with : (f : Fragment) → lookup (is_at (seg_cmp f.meta.name)) es ≡ None
      → values_of (insert_entry seg_cmp es f.meta.name f) ≡ with_fragment f (values_of es)
  held-with f none = ap values_of (table_with f none) ∙ values-entries (with_fragment f (values_of es))

  pub IsShelf-with : (f : Fragment) → lookup (is_at (seg_cmp f.meta.name)) es ≡ None
      → ((name : SegName) → is_marked marks name ≡ true → held_at (with_fragment f (values_of es)) name ≡ None)
      → IsShelf (insert_entry seg_cmp es f.meta.name f) marks
  IsShelf-with f none away = record {
    named = named_by (insert_entry seg_cmp es f.meta.name f) (with_fragment f (values_of es)) (table_with f none);
    sorted = sorted_insert seg_cmp seg_cmp_total f.meta.name f es h.sorted;
    marked = h.marked;
    away = subst (λ fs. (name : SegName) → is_marked marks name ≡ true → held_at fs name ≡ None) (sym (held-with f none)) away;
  }

  table_without : (name : SegName) → remove_entry (is_at (seg_cmp name)) es ≡ entries_of (filter (λ f. not (same_name name f.meta.name)) (values_of es))
  table_without name =
      ap (remove_entry (is_at (seg_cmp name))) h.named
      ∙ remove-entries name (values_of es) (subst (λ xs. IsStrictlySortedBy seg_cmp (keys_of xs)) h.named h.sorted)

  pub held-without : (name : SegName) → values_of (remove_entry (is_at (seg_cmp name)) es) ≡ filter (λ f. not (same_name name f.meta.name)) (values_of es)
  held-without name = ap values_of (table_without name) ∙ values-entries (filter (λ f. not (same_name name f.meta.name)) (values_of es))

  pub IsShelf-without : (name : SegName) (marks' : List SegName) → IsStrictlySortedBy seg_cmp marks'
      → ((other : SegName) → is_marked marks' other ≡ true → held_at (filter (λ f. not (same_name name f.meta.name)) (values_of es)) other ≡ None)
      → IsShelf (remove_entry (is_at (seg_cmp name)) es) marks'
  IsShelf-without name marks' marked away = record {
    named = named_by (remove_entry (is_at (seg_cmp name)) es) (filter (λ f. not (same_name name f.meta.name)) (values_of es)) (table_without name);
    sorted = sorted_remove seg_cmp (is_at (seg_cmp name)) es h.sorted;
    marked = marked;
    away = subst (λ fs. (other : SegName) → is_marked marks' other ≡ true → held_at fs other ≡ None) (sym (held-without name)) away;
  }

  pub sorted_names : IsStrictlySortedBy seg_cmp (map (λ f. f.meta.name) (values_of es))
  sorted_names = subst (IsStrictlySortedBy seg_cmp) (ap keys_of h.named ∙ keys-entries (values_of es)) h.sorted

pub map-name-meta : (fs : List Fragment) → map (λ m. m.name) (map (λ f. f.meta) fs) ≡ map (λ f. f.meta.name) fs
map-name-meta [] = refl
map-name-meta (f ∷ fs) = ap (λ ns. f.meta.name ∷ ns) (map-name-meta fs)

pub none_held : (o : Option Fragment) → is_some o ≡ false → o ≡ None
none_held None e = refl
none_held (Some f) e = contrary (sym e)

-- What a storage server keeps, as contracts see it.
use Rattle.std.specs.Prelude.{◌≡◌, ℕ, Bool, List, [], ◌∷◌, Option, None, IsTrue, is_some, find, unwrap_or}
use Rattle.std.specs.List.{list_any}
use Rattle.std.specs.List.Sorted.{IsStrictlySortedBy}
use Rattle.std.specs.Map.{lookup, keys_of, values_of}
use Rattle.std.specs.BTreeMap.{is_at}
use Rattle.std.specs.Ordering.{nat_cmp}
use Rattle.std.specs.declared.cmp.Ordering.{Ordering}
use Rattle.xfs_base.specs.declared.fragment.Fragment.{Fragment}
use Rattle.xfs_base.specs.declared.segment.LogId.{LogId}
use Rattle.xfs_base.specs.declared.segment.Pass.{Pass}
use Rattle.xfs_base.specs.declared.segment.SegName.{SegName}
use Rattle.xfs_base.specs.Segments.{seg_cmp}
pub use Rattle.xfs_base.specs.Segments.{same_name}

pub record ShelfState : Type 0 where
  -- one, and how often the disk was lost
  pub generation : ℕ
  -- the fragments, by the names of their segments
  pub held : List Fragment
  -- the pass for which each log was fenced, by log
  pub fences : List (LogId × Pass)
  -- the names that were deleted, in order
  pub marks : List SegName

-- nothing is kept yet
abbrev pub new_shelf : ShelfState
new_shelf = record { generation = 1; held = []; fences = []; marks = [] }

abbrev pub log_cmp : LogId → LogId → Ordering
log_cmp a b = nat_cmp a.0 b.0

-- the fragment that is held of a segment
abbrev pub held_at : List Fragment → SegName → Option Fragment
held_at held name = find (λ f. same_name name f.meta.name) held

abbrev pub is_held : ShelfState → SegName → Bool
is_held s name = is_some (held_at s.held name)

abbrev pub is_marked : List SegName → SegName → Bool
is_marked marks name = list_any (same_name name) marks

-- the pass for which a log was fenced; below (0, 0) there is nothing
abbrev pub fence_of : List (LogId × Pass) → LogId → Pass
fence_of fences log = unwrap_or (lookup (is_at (log_cmp log)) fences) (record { inc = 0; att = 0 })

-- each fragment under its name
abbrev pub entries_of : List Fragment → List (SegName × Fragment)
entries_of [] = []
entries_of (f ∷ fs) = (f.meta.name, f) ∷ entries_of fs

-- fragments are kept under their names, these and the marks stand in order, each once, and nothing is held of a name that is marked
pub record IsShelf (entries : List (SegName × Fragment)) (marks : List SegName) : Type 0 where
  pub named : entries ≡ entries_of (values_of entries)
  pub sorted : IsStrictlySortedBy seg_cmp (keys_of entries)
  pub marked : IsStrictlySortedBy seg_cmp marks
  pub away : (name : SegName) → IsTrue (is_marked marks name) → held_at (values_of entries) name ≡ None

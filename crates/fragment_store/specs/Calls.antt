-- What each call makes of a shelf, and what it answers.
use Rattle.std.specs.Prelude.{ℕ, ◌+◌, not, ◌++◌, min, nat_eq, if◌then◌else◌, List, [], ◌∷◌, Option, Some, None, map, filter, fold}
use Rattle.std.specs.BTreeMap.{insert_entry}
use Rattle.std.specs.BTreeSet.{insert_key}
use Rattle.xfs_base.specs.declared.fragment.FragMeta.{FragMeta}
use Rattle.xfs_base.specs.declared.fragment.Fragment.{Fragment}
use Rattle.xfs_base.specs.declared.segment.LogId.{LogId}
use Rattle.xfs_base.specs.declared.segment.Pass.{Pass}
use Rattle.xfs_base.specs.declared.segment.SegName.{SegName}
use Rattle.xfs_base.specs.Limits.{u32_end}
use Rattle.xfs_base.specs.Segments.{pass_cmp, seg_cmp}
use Rattle.xfs_base.specs.Stamps.{is_greater}
use Rattle.fragment_store.specs.declared.store_error.StoreError.{StoreError}
use Rattle.fragment_store.specs.declared.store_error.StoreError.TheVariants.{WrongGeneration, Marked, Fenced}
use Rattle.fragment_store.specs.ShelfState.{ShelfState, same_name, log_cmp, is_held, is_marked, fence_of}

-- the fragments with one more, at its place by name
abbrev pub with_fragment : Fragment → List Fragment → List Fragment
with_fragment f [] = f ∷ []
with_fragment f (g ∷ gs) = if is_greater (seg_cmp f.meta.name g.meta.name) then g ∷ with_fragment f gs else f ∷ g ∷ gs

-- why a fragment of this name may not be kept, in this order: it is meant for another generation, its name was deleted, or its
-- pass is below the fence of its log
abbrev pub refusal : ShelfState → SegName → ℕ → Option StoreError
refusal s name generation =
    if not (nat_eq generation s.generation) then Some (WrongGeneration s.generation)
    else if is_marked s.marks name then Some Marked
    else if is_greater (pass_cmp (fence_of s.fences name.log) name.pass) then Some (Fenced (fence_of s.fences name.log))
    else None

-- the shelf with this fragment too; a fragment that is held stays
abbrev pub shelf_store : ShelfState → Fragment → ShelfState
shelf_store s f = if is_held s f.meta.name then s else record s { held = with_fragment f s.held }

-- the greater of the pass and the fence of the log is the fence
abbrev pub on_fence : ShelfState → LogId → Pass → ShelfState
on_fence s log pass = if is_greater (pass_cmp pass (fence_of s.fences log)) then record s { fences = insert_entry log_cmp s.fences log pass } else s

-- what is said of all fragments, by name
abbrev pub on_list : ShelfState → List FragMeta
on_list s = map (λ f. f.meta) s.held

-- the name is marked, and its fragment is gone
abbrev pub on_delete : ShelfState → SegName → ShelfState
on_delete s name = record s { held = filter (λ f. not (same_name name f.meta.name)) s.held; marks = insert_key seg_cmp s.marks name }

-- the fragment is kept unless its name is marked
abbrev pub on_fill : ShelfState → Fragment → ShelfState
on_fill s f = if is_marked s.marks f.meta.name then s else shelf_store s f

-- all is gone, and the next generation begins
abbrev pub on_lose : ShelfState → ShelfState
on_lose s = record { generation = min (s.generation + 1) u32_end; held = []; fences = []; marks = [] }

-- these names in order, each once
abbrev pub in_order : List SegName → List SegName
in_order names = fold (insert_key seg_cmp) [] names

-- the names that are marked or held
abbrev pub barred : ShelfState → List SegName
barred s = in_order (s.marks ++ map (λ f. f.meta.name) s.held)

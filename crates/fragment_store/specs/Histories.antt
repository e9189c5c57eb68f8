-- Any list of calls that change a shelf, but a loss.
use Rattle.std.specs.Prelude.{◌≡◌, ℕ, List, [], ◌∷◌, None, is_none, if◌then◌else◌, IsTrue}
use Rattle.xfs_base.specs.declared.fragment.Fragment.{Fragment}
use Rattle.xfs_base.specs.declared.segment.LogId.{LogId}
use Rattle.xfs_base.specs.declared.segment.Pass.{Pass}
use Rattle.xfs_base.specs.declared.segment.SegName.{SegName}
use Rattle.fragment_store.specs.ShelfState.{ShelfState, held_at, is_marked}
use Rattle.fragment_store.specs.Calls.{refusal, shelf_store, on_fence, on_delete, on_fill}

pub data Call : Type 0 where
  Store : Fragment → ℕ → Call
  Fence : LogId → Pass → Call
  Delete : SegName → Call
  Fill : Fragment → Call

-- the shelf after one of them
abbrev pub after_call : ShelfState → Call → ShelfState
after_call s (Store f generation) = if is_none (refusal s f.meta.name generation) then shelf_store s f else s
after_call s (Fence log pass) = on_fence s log pass
after_call s (Delete name) = on_delete s name
after_call s (Fill f) = on_fill s f

-- and after all of them, in their order
abbrev pub after_calls : ShelfState → List Call → ShelfState
after_calls s [] = s
after_calls s (c ∷ cs) = after_calls (after_call s c) cs

-- nothing is held of a name that was deleted
abbrev pub DeletedAreAway : ShelfState → Type 0
DeletedAreAway s = (name : SegName) → IsTrue (is_marked s.marks name) → held_at s.held name ≡ None

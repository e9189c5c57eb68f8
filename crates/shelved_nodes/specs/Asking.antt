-- Which call of a shelf made the one of the other, as an event says: seen from the two shelves.
use Rattle.std.specs.Prelude.{◌≡◌, Bool, true, ◌==◌, ◌&&◌, not, find, if◌then◌else◌, Option, Some, None}
use Rattle.disk_shelf.specs.declared.ask.Ask.{Ask}
use Rattle.disk_shelf.specs.declared.ask.Ask.TheVariants as asks
use Rattle.fragment_store.specs.Calls.{on_delete, on_list}
use Rattle.fragment_store.specs.ShelfState.{ShelfState, fence_of, held_at, is_held, is_marked}
use Rattle.wire_msg.specs.declared.body.Body.{Body}
use Rattle.wire_msg.specs.declared.body.Body.TheVariants as body
use Rattle.wire_msg.specs.declared.packet.Do.{Do}
use Rattle.wire_msg.specs.declared.packet.Do.TheVariants.{Begin, Deliver, Tick}
use Rattle.xfs_base.specs.declared.fragment.FragMeta.{FragMeta}
use Rattle.xfs_base.specs.declared.fragment.Fragment.{Fragment}
use Rattle.xfs_base.specs.Segments.{pass_cmp}
use Rattle.xfs_base.specs.Stamps.{is_greater}

abbrev pub only_where : Bool → Ask → Option Ask
only_where new call = if new then Some call else None

abbrev pub fill_of : Option Fragment → Option Ask
fill_of None = None
fill_of (Some f) = Some (asks.Fill f)

abbrev pub fill_listed : ShelfState → Option FragMeta → Option Ask
fill_listed new None = None
fill_listed new (Some m) = fill_of (held_at new.held m.name)

-- a fragment that is held, and was not
abbrev pub fill_in : ShelfState → ShelfState → Option Ask
fill_in old new = fill_listed new (find (λ m. not (is_held old m.name)) (on_list new))

-- by what came
abbrev pub asked_by : Body → ShelfState → ShelfState → Option Ask
asked_by (body.Store m) old new = only_where (is_held new m.fragment.meta.name && not (is_held old m.fragment.meta.name)) (asks.Store m.fragment m.generation)
asked_by (body.Fence m) old new = only_where (is_greater (pass_cmp (fence_of new.fences m.log) (fence_of old.fences m.log))) (asks.Fence m.log m.pass)
asked_by (body.Delete m) old new = only_where (is_marked new.marks m.name && not (is_marked old.marks m.name)) (asks.Delete m.name)
asked_by (body.Fragment m) old new = fill_in old new
asked_by (body.Missing m) old new = fill_in old new
asked_by _ old new = None

-- the call by which an event made the one shelf of the other; none where they are one
abbrev pub asked : Do → ShelfState → ShelfState → Option Ask
asked Begin old new = only_where (not (old.generation == new.generation)) asks.Lose
asked (Deliver packet) old new = asked_by packet.body old new
asked Tick old new = None

-- to delete again what was deleted changes nothing
abbrev pub StaysBy : Body → ShelfState → Type 0
StaysBy (body.Delete m) s = is_marked s.marks m.name ≡ true → on_delete s m.name ≡ s
StaysBy _ s = Unit {0}

abbrev pub StaysDeleted : Do → ShelfState → Type 0
StaysDeleted (Deliver packet) s = StaysBy packet.body s
StaysDeleted _ s = Unit {0}

-- How a shelf changes in one event of its server: not at all, or by one call, which came, and which is due.
use Rattle.std.specs.Prelude.{◌≡◌, ℕ, Option, Some, None}
use Rattle.core_world.specs.declared.any_node.AnyNode.TheVariants as any
use Rattle.fragment_store.specs.Calls.{on_delete, on_fence, on_fill, on_lose, refusal, shelf_store}
use Rattle.fragment_store.specs.ShelfState.{ShelfState}
use Rattle.store_nodes.specs.declared.server.Rebuilding.{Rebuilding}
use Rattle.store_nodes.specs.declared.server.Server.{Server}
use Rattle.version_model.specs.declared.work.Work.TheVariants.{Lose}
use Rattle.wire_msg.specs.declared.body.Body.{Body}
use Rattle.wire_msg.specs.declared.body.Body.TheVariants as body
use Rattle.wire_msg.specs.declared.packet.Do.{Do}
use Rattle.wire_msg.specs.declared.packet.Do.TheVariants.{Deliver}
use Rattle.wire_msg.specs.declared.packet.Packet.{Packet}
use Rattle.wire_msg.specs.declared.storage.Delete.{Delete}
use Rattle.wire_msg.specs.declared.storage.Fence.{Fence}
use Rattle.wire_msg.specs.declared.storage.Store.{Store}
use Rattle.xfs_base.specs.declared.fragment.Fragment.{Fragment}
use Rattle.headline.specs.Dues.{BeginsWork}

-- in the event a packet came that says this
abbrev pub Comes : Do → Body → Type 0
Comes what said = (packet : Packet) × ((what ≡ Deliver packet) × (packet.body ≡ said))

-- it came for a rebuild that is under way: a fragment, or that a server has none
abbrev pub IsForRebuild : Body → Type 0
IsForRebuild (body.Fragment m) = Unit {0}
IsForRebuild (body.Missing m) = Unit {0}
IsForRebuild _ = ⊥

abbrev pub IsRebuilding : Option Rebuilding → Type 0
IsRebuilding None = ⊥
IsRebuilding (Some r) = Unit {0}

-- of a server, in an event, and of its shelf behind it
pub data ShelfChanges (v : Server) (what : Do) (after : ShelfState) : Type 0 where
  Stays : after ≡ v.shelf → ShelfChanges v what after
  -- what came to be stored is held, where generation, marks and fence allow
  Stores : (m : Store) → Comes what (body.Store m) → refusal v.shelf m.fragment.meta.name m.generation ≡ None
      → after ≡ shelf_store v.shelf m.fragment → ShelfChanges v what after
  -- no fence falls
  Fences : (m : Fence) → Comes what (body.Fence m) → after ≡ on_fence v.shelf m.log m.pass → ShelfChanges v what after
  -- what came to be deleted is gone, and its name marked
  Deletes : (m : Delete) → Comes what (body.Delete m) → after ≡ on_delete v.shelf m.name → ShelfChanges v what after
  -- a fragment is filled in that is not marked
  Fills : (said : Body) (f : Fragment) → Comes what said → IsForRebuild said → IsRebuilding v.rebuilding → after ≡ on_fill v.shelf f → ShelfChanges v what after
  -- the disk is lost by an item that begins
  Loses : (number server : ℕ) → BeginsWork (any.Server v) what number (Some (Lose server)) → after ≡ on_lose v.shelf → ShelfChanges v what after

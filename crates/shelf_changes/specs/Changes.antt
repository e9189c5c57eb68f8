-- What an event changes of a server's shelf: one call at most, and which.
use Rattle.std.specs.Prelude.{◌≡◌, true, Option, Some, None}
use Rattle.disk_shelf.specs.Asks.{after_ask}
use Rattle.disk_shelf.specs.declared.ask.Ask.{Ask}
use Rattle.disk_shelf.specs.declared.ask.Ask.TheVariants as asks
use Rattle.fragment_store.specs.Calls.{refusal}
use Rattle.fragment_store.specs.ShelfState.{ShelfState}
use Rattle.node_base.specs.Room.{has_room}
use Rattle.node_moves.specs.server_moves.Moves.{Came}
use Rattle.store_nodes.specs.declared.server.Server.{Server as Node}
use Rattle.store_nodes.specs.ServerEvents.{server_step}
use Rattle.wire_msg.specs.declared.body.Body.TheVariants as body
use Rattle.wire_msg.specs.declared.packet.Do.{Do}
use Rattle.wire_msg.specs.declared.packet.Do.TheVariants.{Begin}
use Rattle.wire_msg.specs.declared.packet.Packet.{Packet}
use Rattle.wire_msg.specs.declared.storage.Delete.{Delete}
use Rattle.wire_msg.specs.declared.storage.Fence.{Fence}
use Rattle.wire_msg.specs.declared.storage.Found.{Found}
use Rattle.wire_msg.specs.declared.storage.Missing.{Missing}
use Rattle.wire_msg.specs.declared.storage.Store.{Store}
use Rattle.xfs_base.specs.declared.fragment.Fragment.{Fragment}

-- the shelf after a call
abbrev pub shelf_after : ShelfState → Ask → ShelfState
shelf_after s call = (after_ask (record { shelf = s; welcomed = 0 }) call).shelf

-- the shelf after one call, or none
abbrev pub shelf_after_one : ShelfState → Option Ask → ShelfState
shelf_after_one s None = s
shelf_after_one s (Some call) = shelf_after s call

-- the calls that an event may make of a shelf
pub data MayMake (what : Do) (s : ShelfState) : Ask → Type 0 where
  Stores : (packet : Packet) (m : Store) → Came what packet (body.Store m) → refusal s m.fragment.meta.name m.generation ≡ None
      → MayMake what s (asks.Store m.fragment m.generation)
  Fences : (packet : Packet) (m : Fence) → Came what packet (body.Fence m) → MayMake what s (asks.Fence m.log m.pass)
  Deletes : (packet : Packet) (m : Delete) → Came what packet (body.Delete m) → MayMake what s (asks.Delete m.name)
  FillsByFragment : (packet : Packet) (m : Found) (f : Fragment) → Came what packet (body.Fragment m) → MayMake what s (asks.Fill f)
  FillsByAbsence : (packet : Packet) (m : Missing) (f : Fragment) → Came what packet (body.Missing m) → MayMake what s (asks.Fill f)
  Loses : what ≡ Begin → has_room s.generation ≡ true → MayMake what s asks.Lose

-- an event leaves a shelf as it was, or as one of these calls makes it
pub data ChangesByOne (what : Do) (old new : ShelfState) : Type 0 where
  Rests : new ≡ old → ChangesByOne what old new
  Calls : (call : Ask) → MayMake what old call → new ≡ shelf_after old call → ChangesByOne what old new

-- each event of a server does
abbrev pub EventsChangeByOne : Type 0
EventsChangeByOne = (node : Node) (what : Do) → ChangesByOne what node.shelf (server_step node what).node.shelf

-- The moves of a storage server: what it does in an event, one thing at a time, and what for.
use Rattle.std.specs.Prelude.{◌≡◌, ℕ, Some, None}
use Rattle.fragment_store.specs.Calls.{on_fence as fenced_at, on_list as listed_on}
use Rattle.fragment_store.specs.ShelfState.{ShelfState, held_at}
use Rattle.store_nodes.specs.ServerEvents.{of_log}
use Rattle.wire_msg.specs.declared.body.Body.{Body}
use Rattle.wire_msg.specs.declared.body.Body.TheVariants as body
use Rattle.wire_msg.specs.declared.packet.Do.{Do}
use Rattle.wire_msg.specs.declared.packet.Packet.{Packet}
use Rattle.wire_msg.specs.declared.storage.Delete.{Delete}
use Rattle.wire_msg.specs.declared.storage.Fence.{Fence}
use Rattle.wire_msg.specs.declared.storage.Fetch.{Fetch}
use Rattle.wire_msg.specs.declared.storage.ListAsk.{ListAsk}
use Rattle.wire_msg.specs.declared.storage.Store.{Store}
use Rattle.xfs_base.specs.declared.fragment.Fragment.{Fragment}
use Rattle.xfs_base.specs.declared.node.NodeId.{NodeId}
use Rattle.xfs_base.specs.declared.node.NodeId.TheVariants.{Registry, Server}
use Rattle.xfs_base.specs.declared.segment.SegName.{SegName}
use Rattle.node_moves.specs.server_moves.Moves.{Came}

-- by a server with this shelf; to what asks for it, as the shelf was before the event
pub data Sent (first : ShelfState) (what : Do) : ShelfState → NodeId → Body → Type 0 where
  Stored : (packet : Packet) (m : Store) → Came what packet (body.Store m)
      → Sent first what first packet.from
      (body.Stored (record { name = m.fragment.meta.name; index = m.fragment.meta.index; generation = m.generation }))
  Held : (packet : Packet) (m : Fetch) (fragment : Fragment) → Came what packet (body.Fetch m) → held_at first.held m.name ≡ Some fragment
      → Sent first what first packet.from (body.Fragment (record { ask = m.ask; generation = first.generation; fragment = fragment }))
  Missed : (packet : Packet) (m : Fetch) → Came what packet (body.Fetch m) → held_at first.held m.name ≡ None
      → Sent first what first packet.from (body.Missing (record { name = m.name; ask = m.ask; generation = first.generation }))
  Fenced : (packet : Packet) (m : Fence) → Came what packet (body.Fence m)
      → Sent first what first packet.from
      (body.Fenced
      (record {
        log = m.log;
        pass = m.pass;
        generation = (fenced_at first m.log m.pass).generation;
        held = of_log m.log (listed_on (fenced_at first m.log m.pass));
      }))
  ListSent : (packet : Packet) (m : ListAsk) → Came what packet (body.List m)
      → Sent first what first packet.from (body.Listed (record { ask = m.ask; generation = first.generation; held = listed_on first }))
  Deleted : (packet : Packet) (m : Delete) → Came what packet (body.Delete m)
      → Sent first what first packet.from (body.Deleted (record { name = m.name; generation = first.generation }))
  ListAsked : {shelf : ShelfState} (server ask : ℕ) → Sent first what shelf (Server server) (body.List (record { ask = ask }))
  FragmentAsked : {shelf : ShelfState} (server : ℕ) (name : SegName) (ask : ℕ)
      → Sent first what shelf (Server server) (body.Fetch (record { name = name; ask = ask }))
  Greeted : {shelf : ShelfState} (ask : ℕ) → Sent first what shelf Registry (body.Hello (record { inc = shelf.generation; ask = ask }))

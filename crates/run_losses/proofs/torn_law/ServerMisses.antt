-- What a storage server says of a segment that it misses answers a fetch that comes, at a moment at which it holds no fragment of that name.
use Rattle.std.proofs.Common.{◌≡◌, None, All, refl}
use Rattle.std.proofs.lemmas.List.Elements.{All-from_recursion}
use Rattle.fragment_store.specs.ShelfState.{ShelfState, held_at}
use Rattle.store_nodes.specs.declared.server.Server.{Server as Node}
use Rattle.store_nodes.specs.ServerEvents.{server_step}
use Rattle.wire_msg.specs.declared.body.Body.{Body}
use Rattle.wire_msg.specs.declared.body.Body.TheVariants as body
use Rattle.wire_msg.specs.declared.packet.Do.{Do}
use Rattle.wire_msg.specs.declared.packet.Do.TheVariants.{Deliver}
use Rattle.wire_msg.specs.declared.packet.Packet.{Packet}
use Rattle.wire_msg.specs.declared.storage.Fetch.{Fetch}
use Rattle.wire_msg.specs.declared.storage.Missing.{Missing}
use Rattle.xfs_base.specs.declared.node.NodeId.{NodeId}
use Rattle.node_moves.proofs.server_moves.Keeping.{event_sends}
use Rattle.node_moves.proofs.server_moves.Moves.{Sent}
use Rattle.node_moves.proofs.server_moves.Moves.Sent.{Missed}

-- it answers this event
pub record Answers (node : Node) (what : Do) (to : NodeId) (m : Missing) : Type 0 where
  pub packet : Packet
  pub delivers : what ≡ Deliver packet
  pub asker : packet.from ≡ to
  pub fetch : Fetch
  pub asks : packet.body ≡ body.Fetch fetch
  pub name : m.name ≡ fetch.name
  pub ask : m.ask ≡ fetch.ask
  pub generation : m.generation ≡ node.shelf.generation
  pub nothing : held_at node.shelf.held fetch.name ≡ None

abbrev pub MissingSo : Node → Do → NodeId → Body → Type 0
MissingSo node what to (body.Missing m) = Answers node what to m
MissingSo node what to _ = Unit {0}

sent_so : (node : Node) (what : Do) (s : ShelfState) (to : NodeId) (said : Body) → Sent node.shelf what s to said → MissingSo node what to said
sent_so node what s to said (Missed packet m came nothing) = record {
  packet = packet;
  delivers = came.event;
  asker = refl;
  fetch = m;
  asks = came.says;
  name = refl;
  ask = refl;
  generation = refl;
  nothing = nothing;
}
sent_so node what s to said _ = tt

-- whatever happens to it
pub misses_what_it_lacks : (node : Node) (what : Do) → All (λ (p : Packet). MissingSo node what p.to p.body) (server_step node what).packets
misses_what_it_lacks node what =
    All-from_recursion (λ (p : Packet). MissingSo node what p.to p.body) (server_step node what).packets
    (event_sends node what (λ (p : Packet). MissingSo node what p.to p.body) (sent_so node what))

-- What an event makes of the items of the registry: it answers only the item that begins, and none waits.
use Rattle.std.proofs.Common.{◌≡◌, ℕ, [], ◌∷◌, flat_map, Option, Some, None, refl}
use Rattle.node_base.specs.Beginning.{items_begin, next_item, work_at}
use Rattle.node_base.specs.declared.effects.Effect.TheVariants.{Send}
use Rattle.node_base.specs.Nodes.{others}
use Rattle.node_base.specs.Room.{has_room}
use Rattle.node_base.specs.Shape.{is_well_formed}
use Rattle.registry.specs.Board.{Made, can_move, moved, reassign, transition}
use Rattle.registry.specs.BoardState.{BoardState}
use Rattle.registry.specs.declared.input.In.TheVariants as board
use Rattle.registry.specs.declared.output.Out.{Out}
use Rattle.registry.specs.declared.output.Out.TheVariants.{Changed, Epoch, Kept}
use Rattle.registry_node.specs.declared.node.RegistryNode.{RegistryNode}
use Rattle.registry_node.specs.Events as events
use Rattle.registry_node.specs.Events.{Done, move_of, takes, tell_all}
use Rattle.version_model.specs.declared.answer.Answer.TheVariants as answer
use Rattle.wire_msg.specs.declared.body.Body.{Body}
use Rattle.wire_msg.specs.declared.body.Body.TheVariants as body
use Rattle.wire_msg.specs.declared.packet.Do.{Do}
use Rattle.wire_msg.specs.declared.packet.Do.TheVariants.{Begin, Deliver, Tick}
use Rattle.wire_msg.specs.declared.packet.Packet.{Packet}
use Rattle.wire_msg.specs.declared.registry.CkptDone.{CkptDone}
use Rattle.xfs_base.proofs.Alls.{all_append, all_flat_map, all_map}
use Rattle.xfs_base.proofs.Booleans.{by_test}
use Rattle.xfs_base.specs.declared.node.NodeId.{NodeId}
use Rattle.xfs_base.specs.declared.node.NodeId.TheVariants.{Registry}
use Rattle.xfs_base.specs.Steps.{still}
use Rattle.node_base.specs.declared.items.Items.{Items}
use Rattle.serving_moves.proofs.item_moves.Keeping as moving
use Rattle.serving_moves.proofs.item_moves.Keeping.{same, unmoved}
use Rattle.serving_moves.specs.item_moves.Moves.{AllPlain, IsNone, IsPlain, IsPrompt, ItemsStay}
use Rattle.serving_moves.specs.item_moves.Moves.Begun.{AtOnce}
use Rattle.serving_moves.specs.item_moves.Moves.Event.{Begins, GoesOn, Idles}
use Rattle.serving_moves.specs.item_moves.Moves.Move.{Stays}
use Rattle.serving_moves.specs.item_moves.Moves.Moves.{Last}
use Rattle.serving_moves.specs.item_moves.Moves.Losses.{Silent}

abbrev pub items_of : RegistryNode → Items
items_of r = r.items

-- there is one registry: it has no number
abbrev pub no_number : RegistryNode → ℕ
no_number r = 0

-- what an event makes of the registry: no item of it waits
abbrev pub Turned : Do → RegistryNode → Done → Type 0
Turned what r d = moving.Turned Silent IsNone IsPrompt RegistryNode items_of no_number what r d

pub all_told : (r : RegistryNode) → AllPlain Silent (tell_all r)
all_told r = all_map (IsPlain Silent) (λ to. Send to (body.MapNews (events.news_of r.board))) (λ to. tt) (others r.peers Registry)

plainly : (r : RegistryNode) (what : Do) (d : Done) → ItemsStay r.items d.state.items → AllPlain Silent d.outs → Turned what r d
plainly r what d stay plain = record { its_number = refl; event = GoesOn (Last (Stays stay plain)) }

-- ---- packets

changed_plain : (r : RegistryNode) (o : Out) → AllPlain Silent (events.say_one_changed r o)
changed_plain r Changed = all_told r
changed_plain r (Epoch epoch) = tt
changed_plain r (Kept epoch) = tt

kept_plain : (from : NodeId) (done : CkptDone) (o : Out) → AllPlain Silent (events.say_one_kept from done o)
kept_plain from done Changed = tt
kept_plain from done (Epoch epoch) = tt
kept_plain from done (Kept epoch) = (tt, tt)

hears_so : (r : RegistryNode) (what : Do) (from : NodeId) (b : Body) → Turned what r (events.hears r from b)
unfolding events.on_hello events.on_done
hears_so r what from (body.Hello hello) =
    let made : Made = transition r.board (board.Hello from hello.inc) in
    let now : RegistryNode = record r { board = made.state } in
    plainly r what _ (same r.items)
    (all_append (IsPlain Silent) (flat_map (events.say_one_changed now) made.outs) _
    (all_flat_map (IsPlain Silent) (events.say_one_changed now) (changed_plain now) made.outs) (tt, tt))
hears_so r what from (body.CkptDone done) =
    plainly r what _ (same r.items)
    (all_flat_map (IsPlain Silent) (events.say_one_kept from done) (kept_plain from done)
    (transition r.board (board.Done done.slot done.epoch done.parts done.horizon)).outs)
hears_so r what from _ = unmoved what r

packet_so : (r : RegistryNode) (packet : Packet) → Turned (Deliver packet) r (events.on_packet r packet)
unfolding events.on_packet
packet_so r packet =
    by_test (Turned (Deliver packet) r) (is_well_formed r.peers packet) (events.hears r packet.from packet.body) (still r)
    (λ _. hears_so r (Deliver packet) packet.from packet.body) (λ _. unmoved (Deliver packet) r)

-- ---- items

module _ (r : RegistryNode) (number : ℕ) (its : next_item r.items ≡ Some number) where
  abbrev w : RegistryNode
  w = record r { items = items_begin r.items }

  -- an item that is not answered
  idle : (b : BoardState) → Turned Begin r (still (record w { board = b }))
  idle b = record { its_number = refl; event = Idles refl }

  -- the maps are told, and the new epoch is the answer
  moved_so : (b : BoardState) (epoch : ℕ) → Turned Begin r (events.after_move w number (record { state = b; outs = Changed ∷ Epoch epoch ∷ [] }))
  moved_so b epoch =
      let now : RegistryNode = record w { board = b } in
      record { its_number = refl; event = Begins number refl its (AtOnce (answer.Epoch epoch) (tell_all now) [] tt (all_told now) tt) }

  move_so : (slot manager : ℕ) → Turned Begin r (events.on_move w number slot manager)
  unfolding events.on_move reassign
  move_so slot manager =
      by_test (λ (m : Made). Turned Begin r (events.after_move w number m)) (can_move w.board slot) _ (still w.board)
      (λ _. moved_so (moved w.board slot manager) _) (λ _. idle w.board)

  item_so : (wish : Option (ℕ × ℕ)) → Turned Begin r (events.on_item w number wish)
  item_so None = idle r.board
  item_so (Some wish) = move_so wish.0 wish.1

begin_so : (r : RegistryNode) → Turned Begin r (events.on_begin r)
unfolding events.on_begin
begin_so r = by (next_item r.items) refl
  where
    by : (item : Option ℕ) → next_item r.items ≡ item → Turned Begin r (events.at_item (record r { items = items_begin r.items }) item)
    by None fact = record { its_number = refl; event = Idles refl }
    by (Some number) fact = item_so r number fact (move_of (work_at (items_begin r.items) number))

-- ---- all events

event_so : (r : RegistryNode) (what : Do) → Turned what r (events.on_event r what)
event_so r Begin = begin_so r
event_so r (Deliver packet) = packet_so r packet
event_so r Tick = plainly r Tick _ (same r.items) (all_told r)

pub registry_turned : (r : RegistryNode) (what : Do) → Turned what r (takes r what)
registry_turned r what =
    by_test (Turned what r) (has_room r.board.version) (events.on_event r what) (still r) (λ _. event_so r what) (λ _. unmoved what r)

-- Each event of the registry is made of moves: the one walk through all that can happen to it.
use Rattle.std.proofs.Common.{◌≡◌, ℕ, true, List, [], ◌∷◌, Option, Some, None, refl}
use Rattle.std.specs.List.{AllByRecursion, flat_map}
use Rattle.node_base.specs.Beginning.{items_begin, is_left, next_item, work_at}
use Rattle.node_base.specs.declared.effects.Effect.{Effect}
use Rattle.node_base.specs.declared.effects.Effect.TheVariants.{Send}
use Rattle.node_base.specs.declared.items.Items.{Items}
use Rattle.node_base.specs.Nodes.{others}
use Rattle.node_base.specs.Room.{has_room}
use Rattle.node_base.specs.Shape.{is_well_formed}
use Rattle.registry.specs.Board.{Made, transition}
use Rattle.registry.specs.BoardState.{BoardState}
use Rattle.registry.specs.declared.input.In.TheVariants as input
use Rattle.registry.specs.declared.output.Out.{Out}
use Rattle.registry.specs.declared.output.Out.TheVariants.{Changed, Epoch, Kept}
use Rattle.registry_node.specs.declared.node.RegistryNode.{RegistryNode}
use Rattle.registry_node.specs.Events.{Done, at_item, say_one_changed, hears, say_one_kept, move_of, say_one_moved, news_of, on_begin, on_done, on_event, on_hello, on_item, on_move, on_packet, tell_all, welcome_of}
use Rattle.version_model.specs.declared.work.Work.{Work}
use Rattle.version_model.specs.declared.work.Work.TheVariants as work
use Rattle.wire_msg.specs.declared.body.Body.{Body}
use Rattle.wire_msg.specs.declared.body.Body.TheVariants as body
use Rattle.wire_msg.specs.declared.packet.Do.{Do}
use Rattle.wire_msg.specs.declared.packet.Do.TheVariants.{Begin, Deliver, Tick}
use Rattle.wire_msg.specs.declared.packet.Packet.{Packet}
use Rattle.wire_msg.specs.declared.registry.CkptDone.{CkptDone}
use Rattle.wire_msg.specs.declared.registry.Hello.{Hello}
use Rattle.xfs_base.proofs.Alls.{all_append, all_flat_map, all_map}
use Rattle.xfs_base.proofs.Booleans.{by_test}
use Rattle.xfs_base.specs.declared.node.NodeId.{NodeId}
use Rattle.xfs_base.specs.declared.node.NodeId.TheVariants.{Registry}
use Rattle.xfs_base.specs.Steps.{still}
use Rattle.node_moves.specs.registry_moves.Moves.{Moves, RegistryEventsAreMoves, Said}
use Rattle.node_moves.specs.registry_moves.Moves.Given.{CheckpointCame, HelloCame, MoveAsked}
use Rattle.node_moves.specs.registry_moves.Moves.Said.{Acknowledges, AnswersItem, TellsMaps, Welcomes}
use Rattle.node_moves.specs.registry_moves.Moves.Turned.{Rests, Takes}
use Rattle.node_moves.specs.server_moves.Moves.{Came}

module _ (first : RegistryNode) (what : Do) where
  abbrev Goes : Done → Type 0
  Goes d = Moves first what d

  abbrev AllSaid : RegistryNode → List Effect → Type 0
  AllSaid node outs = AllByRecursion (Said first what node.board) outs

  rests : Goes (still first)
  rests = record { peers = refl; works = refl; board = Rests; says = tt }

  -- the maps go to all
  all_told : (node : RegistryNode) → AllSaid node (tell_all node)
  all_told node =
      all_map (Said first what node.board) (λ (to : NodeId). Send to (body.MapNews (news_of node.board))) (λ to. TellsMaps to) (others node.peers Registry)

  ticks : Goes (record { state = first; outs = tell_all first })
  ticks = record { peers = refl; works = refl; board = Rests; says = all_told first }

  -- ---- items

  abbrev noted : RegistryNode
  noted = record first { items = items_begin first.items }

  -- what items ask for stays
  same_works : (items_begin first.items).works ≡ first.items.works
  same_works = by_test (λ (x : Items). x.works ≡ first.items.works) (is_left first.items) _ first.items (λ t. refl) (λ t. refl)

  same_work : (number : ℕ) → work_at first.items number ≡ work_at noted.items number
  same_work number =
      by_test (λ (x : Items). work_at first.items number ≡ work_at x number) (is_left first.items) _ first.items (λ t. refl) (λ t. refl)

  notes : Goes (still noted)
  notes = record { peers = refl; works = same_works; board = Rests; says = tt }

  moved_said : (node : RegistryNode) (number : ℕ) (o : Out) → AllSaid node (say_one_moved node number o)
  moved_said node number Changed = all_told node
  moved_said node number (Epoch epoch) = (AnswersItem number epoch, tt)
  moved_said node number (Kept epoch) = tt

  slot_moved : (number slot manager : ℕ) → what ≡ Begin → work_at first.items number ≡ Some (work.Move slot manager)
      → Goes (on_move noted number slot manager)
  unfolding on_move
  slot_moved number slot manager begins asked =
      let made : Made = transition first.board (input.Reassign slot manager) in
      let to : RegistryNode = record noted { board = made.state } in
      record {
        peers = refl;
        works = same_works;
        board = Takes (input.Reassign slot manager) (MoveAsked number slot manager begins asked);
        says = all_flat_map (Said first what made.state) (say_one_moved to number) (moved_said to number) made.outs;
      }

  wished : (number : ℕ) (asked : Option Work) → what ≡ Begin → work_at first.items number ≡ asked → Goes (on_item noted number (move_of asked))
  wished number (Some (work.Move slot manager)) begins fact = slot_moved number slot manager begins fact
  wished number _ begins fact = notes

  item_begun : (item : Option ℕ) → what ≡ Begin → Goes (at_item noted item)
  item_begun None begins = notes
  item_begun (Some number) begins = wished number (work_at noted.items number) begins (same_work number)

  begins_so : what ≡ Begin → Goes (on_begin first)
  unfolding on_begin
  begins_so begins = item_begun (next_item first.items) begins

  -- ---- packets

  changed_said : (node : RegistryNode) (o : Out) → AllSaid node (say_one_changed node o)
  changed_said node Changed = all_told node
  changed_said node (Epoch epoch) = tt
  changed_said node (Kept epoch) = tt

  module _ (packet : Packet) (event : what ≡ Deliver packet) (room : has_room first.board.version ≡ true) where
    hello_heard : (m : Hello) → packet.body ≡ body.Hello m → Goes (on_hello first packet.from m)
    unfolding on_hello
    hello_heard m says =
        let made : Made = transition first.board (input.Hello packet.from m.inc) in
        let to : RegistryNode = record first { board = made.state } in
        let came : Came what packet (body.Hello m) = record { event = event; says = says } in
        record {
          peers = refl;
          works = refl;
          board = Takes (input.Hello packet.from m.inc) (HelloCame packet m came);
          says =
              all_append (Said first what made.state) (flat_map (say_one_changed to) made.outs) (Send packet.from (body.Welcome (welcome_of to m)) ∷ [])
              (all_flat_map (Said first what made.state) (say_one_changed to) (changed_said to) made.outs) (Welcomes packet m came room refl, tt);
        }

    kept_said : (now : BoardState) (m : CkptDone) → Came what packet (body.CkptDone m) → (o : Out)
        → AllByRecursion (Said first what now) (say_one_kept packet.from m o)
    kept_said now m came Changed = tt
    kept_said now m came (Epoch epoch) = tt
    kept_said now m came (Kept epoch) = (Acknowledges packet m epoch came, tt)

    done_heard : (m : CkptDone) → packet.body ≡ body.CkptDone m → Goes (on_done first packet.from m)
    unfolding on_done
    done_heard m says =
        let made : Made = transition first.board (input.Done m.slot m.epoch m.parts m.horizon) in
        let came : Came what packet (body.CkptDone m) = record { event = event; says = says } in
        record {
          peers = refl;
          works = refl;
          board = Takes (input.Done m.slot m.epoch m.parts m.horizon) (CheckpointCame packet m came);
          says = all_flat_map (Said first what made.state) (say_one_kept packet.from m) (kept_said made.state m came) made.outs;
        }

    heard : (said : Body) → packet.body ≡ said → Goes (hears first packet.from said)
    heard (body.Hello m) says = hello_heard m says
    heard (body.CkptDone m) says = done_heard m says
    heard _ says = rests

    packet_heard : Goes (on_packet first packet)
    unfolding on_packet
    packet_heard =
        by_test Goes (is_well_formed first.peers packet) (hears first packet.from packet.body) (still first) (λ t. heard packet.body refl) (λ t. rests)

happens : (first : RegistryNode) (what : Do) → has_room first.board.version ≡ true → Moves first what (on_event first what)
happens first Begin room = begins_so first Begin refl
happens first (Deliver packet) room = packet_heard first (Deliver packet) packet refl room
happens first Tick room = ticks first Tick

pub registry_events_are_moves : RegistryEventsAreMoves
registry_events_are_moves first what =
    by_test (Moves first what) (has_room first.board.version) (on_event first what) (still first) (λ room. happens first what room) (λ t. rests first what)

-- What each event makes of the registry.
use Rattle.std.specs.Prelude.{ℕ, List, [], ◌∷◌, ◌++◌, Option, Some, None, if◌then◌else◌}
use Rattle.std.specs.List.{flat_map}
use Rattle.version_model.specs.declared.answer.Answer.TheVariants as answers
use Rattle.version_model.specs.declared.work.Work.{Work}
use Rattle.version_model.specs.declared.work.Work.TheVariants.{Move}
use Rattle.wire_msg.specs.declared.body.Body.{Body}
use Rattle.wire_msg.specs.declared.body.Body.TheVariants as body
use Rattle.wire_msg.specs.declared.packet.Do.{Do}
use Rattle.wire_msg.specs.declared.packet.Do.TheVariants.{Begin, Deliver, Tick}
use Rattle.wire_msg.specs.declared.packet.Packet.{Packet}
use Rattle.wire_msg.specs.declared.registry.CkptDone.{CkptDone}
use Rattle.wire_msg.specs.declared.registry.Hello.{Hello}
use Rattle.wire_msg.specs.declared.registry.News.{News}
use Rattle.wire_msg.specs.declared.registry.Welcome.{Welcome}
use Rattle.wire_msg.specs.NodeStep.{NodeStep}
use Rattle.xfs_base.specs.declared.node.NodeId.{NodeId}
use Rattle.xfs_base.specs.declared.node.NodeId.TheVariants.{Registry}
use Rattle.xfs_base.specs.declared.setup.Setup.{Setup}
use Rattle.xfs_base.specs.Steps.{Stepped, still}
use Rattle.node_base.specs.declared.effects.Effect.{Effect}
use Rattle.node_base.specs.declared.effects.Effect.TheVariants.{Send, Answer}
use Rattle.node_base.specs.Beginning.{items_start, next_item, items_begin, work_at}
use Rattle.node_base.specs.Effects.{packets_of, acts_of, send_each}
use Rattle.node_base.specs.Nodes.{peers_of, others}
use Rattle.node_base.specs.Room.{has_room}
use Rattle.node_base.specs.Shape.{is_well_formed}
use Rattle.registry.specs.Board.{board_start as first_board, transition, board_slots}
use Rattle.registry.specs.BoardState.{BoardState}
use Rattle.registry.specs.declared.input.In.TheVariants as board
use Rattle.registry.specs.declared.output.Out.{Out}
use Rattle.registry.specs.declared.output.Out.TheVariants.{Changed, Epoch, Kept}
use Rattle.registry_node.specs.declared.node.RegistryNode.{RegistryNode}

-- the registry after an event, and what it does
abbrev pub Done : Type 0
Done = Stepped RegistryNode Effect

-- the registry at the start of a run
abbrev pub registry_start : Setup → List Work → RegistryNode
registry_start setup items = record { peers = peers_of setup; items = items_start items; board = first_board setup }

-- the maps as they are
abbrev pub news_of : BoardState → News
news_of maps = record { version = maps.version; slots = board_slots maps; groups = maps.groups }

-- the maps go to all other nodes
abbrev pub tell_all : RegistryNode → List Effect
tell_all node = send_each (others node.peers Registry) (body.MapNews (news_of node.board))

-- ---- a slot goes to a manager

-- changed maps go to all nodes, and the new epoch is the answer to the item
abbrev pub say_one_moved : RegistryNode → ℕ → Out → List Effect
say_one_moved node number Changed = tell_all node
say_one_moved node number (Epoch epoch) = Answer number (answers.Epoch epoch) ∷ []
say_one_moved node number (Kept epoch) = []

abbrev pub after_move : RegistryNode → ℕ → Stepped BoardState Out → Done
after_move node number stepped =
    record { state = record node { board = stepped.state }; outs = flat_map (say_one_moved (record node { board = stepped.state }) number) stepped.outs }

unfoldable pub on_move : RegistryNode → ℕ → ℕ → ℕ → Done
on_move node number slot manager = after_move node number (transition node.board (board.Reassign slot manager))

-- ---- a node asks for the maps, and may tell of a restart or a loss

abbrev pub say_one_changed : RegistryNode → Out → List Effect
say_one_changed node Changed = tell_all node
say_one_changed node (Epoch epoch) = []
say_one_changed node (Kept epoch) = []

abbrev pub welcome_of : RegistryNode → Hello → Welcome
welcome_of node hello = record { inc = hello.inc; ask = hello.ask; news = news_of node.board }

-- changed maps go to all nodes first, and then to who asked
abbrev pub welcomes : RegistryNode → NodeId → Hello → List Out → List Effect
welcomes node from hello outs = flat_map (say_one_changed node) outs ++ Send from (body.Welcome (welcome_of node hello)) ∷ []

abbrev pub after_hello : RegistryNode → NodeId → Hello → Stepped BoardState Out → Done
after_hello node from hello stepped =
    record { state = record node { board = stepped.state }; outs = welcomes (record node { board = stepped.state }) from hello stepped.outs }

unfoldable pub on_hello : RegistryNode → NodeId → Hello → Done
on_hello node from hello = after_hello node from hello (transition node.board (board.Hello from hello.inc))

-- ---- a manager has written a checkpoint

abbrev pub say_one_kept : NodeId → CkptDone → Out → List Effect
say_one_kept from done Changed = []
say_one_kept from done (Epoch epoch) = []
say_one_kept from done (Kept epoch) = Send from (body.CkptAck (record { slot = done.slot; epoch = epoch; ask = done.ask })) ∷ []

-- the epoch that is kept is the answer
abbrev pub after_done : RegistryNode → NodeId → CkptDone → Stepped BoardState Out → Done
after_done node from done stepped = record { state = record node { board = stepped.state }; outs = flat_map (say_one_kept from done) stepped.outs }

unfoldable pub on_done : RegistryNode → NodeId → CkptDone → Done
on_done node from done = after_done node from done (transition node.board (board.Done done.slot done.epoch done.parts done.horizon))

-- ---- all events

abbrev pub move_in : Work → Option (ℕ × ℕ)
move_in (Move slot manager) = Some (slot, manager)
move_in _ = None

abbrev pub move_of : Option Work → Option (ℕ × ℕ)
move_of None = None
move_of (Some work) = move_in work

abbrev pub on_item : RegistryNode → ℕ → Option (ℕ × ℕ) → Done
on_item node number None = still node
on_item node number (Some wish) = on_move node number wish.0 wish.1

abbrev pub at_item : RegistryNode → Option ℕ → Done
at_item node None = still node
at_item node (Some number) = on_item node number (move_of (work_at node.items number))

-- the next item begins
unfoldable pub on_begin : RegistryNode → Done
on_begin node = at_item (record node { items = items_begin node.items }) (next_item node.items)

abbrev pub hears : RegistryNode → NodeId → Body → Done
hears node from (body.Hello hello) = on_hello node from hello
hears node from (body.CkptDone done) = on_done node from done
hears node from _ = still node

unfoldable pub on_packet : RegistryNode → Packet → Done
on_packet node packet = if is_well_formed node.peers packet then hears node packet.from packet.body else still node

abbrev pub on_event : RegistryNode → Do → Done
on_event node Begin = on_begin node
on_event node (Deliver packet) = on_packet node packet
on_event node Tick = record { state = node; outs = tell_all node }

-- the event is taken where the version is at least 65,536 below its end; an epoch is never above the version
abbrev pub takes : RegistryNode → Do → Done
takes node what = if has_room node.board.version then on_event node what else still node

abbrev pub seen : Done → NodeStep RegistryNode
seen done = record { node = done.state; packets = packets_of Registry done.outs; acts = acts_of Registry done.outs }

abbrev pub registry_step : RegistryNode → Do → NodeStep RegistryNode
registry_step node what = seen (takes node what)

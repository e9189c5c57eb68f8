-- The three boards, and what one event makes of them.
use Rattle.std.specs.Prelude.{ℕ, ◌-◌, Bool, false, ◌&&◌, nat_lt, nat_le, List, [], ◌∷◌, ◌++◌, length, drop, slice_get, slice_set, Option, Some, None, if◌then◌else◌}
use Rattle.script_text.specs.declared.script.Script.{Script}
use Rattle.wire_msg.specs.declared.packet.Do.{Do}
use Rattle.wire_msg.specs.declared.packet.Packet.{Packet}
use Rattle.xfs_base.specs.Steps.{Stepped, still, steps}
use Rattle.xfs_base.specs.declared.node.NodeId.TheVariants.{Registry}
use Rattle.world_base.specs.Items.{items_of}
use Rattle.world_base.specs.declared.event.Event.{Event}
use Rattle.board.specs.Offering.{command_of}
use Rattle.board.specs.State.{chosen_part}
use Rattle.board.specs.declared.command.Command.{Command}
use Rattle.board.specs.declared.input.In.{In}
use Rattle.board.specs.declared.input.In.TheVariants as input
use Rattle.board.specs.declared.packet.BoardPacket.{BoardPacket}
use Rattle.board_world.specs.declared.board_event.BoardEvent.{BoardEvent}
use Rattle.board_world.specs.declared.board_event.BoardEvent.TheVariants.{Far, Offer, Mail, Beat, Stop, Start}
use Rattle.board_world.specs.declared.board_node.BoardNode.{BoardNode}
use Rattle.board_world.specs.BoardTurns.{BoardTurn, board_node_start, board_node_take}
use Rattle.board_world.specs.Projection.{project_all}

pub record BoardsState : Type 0 where
  -- how many items the registry has
  pub items : ℕ
  -- boards 1, 2 and 3, each with its registry
  pub nodes : List BoardNode
  -- all that boards said to each other, in order
  pub mail : List BoardPacket
  -- all that their registries sent, in order, each packet with the clock of the event that sent it
  pub handed : List Packet
  -- the commands that are chosen, in order
  pub chosen : List Command
  -- how many items are begun by what is chosen
  pub begun : ℕ

-- before the first event of a script
abbrev pub boards_start : Script → BoardsState
boards_start script = record {
  items = length (items_of script.lines Registry);
  nodes = board_node_start script 1 ∷ board_node_start script 2 ∷ board_node_start script 3 ∷ [];
  mail = [];
  handed = [];
  chosen = [];
  begun = 0;
}

-- the board of this number
abbrev pub node_at : BoardsState → ℕ → Option BoardNode
node_at w number = if nat_lt 0 number then slice_get w.nodes (number - 1) else None

abbrev pub is_up_at : Option BoardNode → Bool
is_up_at None = false
is_up_at (Some node) = node.board.up

-- whether the board of this number is up
abbrev pub is_up : BoardsState → ℕ → Bool
is_up w number = is_up_at (node_at w number)

-- What a board shows to be chosen beyond what was is chosen now, and happens to the registry.
abbrev pub chosen_more : BoardsState → List Command → Stepped BoardsState Event
chosen_more w more = record {
  state = record w { chosen = w.chosen ++ more; begun = (project_all w.items w.begun more).state };
  outs = (project_all w.items w.begun more).outs;
}

abbrev pub shown_by : BoardsState → BoardNode → Stepped BoardsState Event
shown_by w node = chosen_more w (drop (length w.chosen) (chosen_part node.board))

-- A board at a place had its turn.
abbrev pub after_turn : BoardsState → ℕ → BoardTurn → Stepped BoardsState Event
after_turn w place turn =
    shown_by (record w { nodes = slice_set w.nodes place turn.node; mail = w.mail ++ turn.mail; handed = w.handed ++ turn.handed }) turn.node

abbrev pub turned_by : BoardsState → ℕ → In → Option BoardNode → Stepped BoardsState Event
turned_by w place input None = still w
turned_by w place input (Some node) = after_turn w place (board_node_take w.items node input)

unfoldable pub boards_turn : BoardsState → ℕ → In → Stepped BoardsState Event
boards_turn w place input = turned_by w place input (slice_get w.nodes place)

-- this happens at the board of this number; nothing does where there is none
abbrev pub boards_happen : BoardsState → ℕ → In → Stepped BoardsState Event
boards_happen w number input = if nat_lt 0 number && nat_le number (length w.nodes) then boards_turn w (number - 1) input else still w

-- that this happens to the registry, as a command
unfoldable pub command_at : Do → ℕ → Option Command
command_at what item = command_of what item

-- a board is offered what happens to the registry; nothing where the registry takes no notice of it
abbrev pub boards_offer : BoardsState → ℕ → Option Command → Stepped BoardsState Event
boards_offer w number None = still w
boards_offer w number (Some command) = boards_happen w number (input.Offer command)

-- The next state of the boards, and the events of the nodes that the event stands for: itself, where it is of a node far from the boards, and else what happens
-- to the registry by the commands that became chosen at it.
abbrev pub boards_take : BoardsState → BoardEvent → Stepped BoardsState Event
boards_take w (Far event) = record { state = w; outs = event ∷ [] }
boards_take w (Offer number what item) = boards_offer w number (command_at what item)
boards_take w (Mail packet) = boards_happen w packet.to (input.Mail packet)
boards_take w (Beat number) = boards_happen w number input.Beat
boards_take w (Stop number) = boards_happen w number input.Stop
boards_take w (Start number) = boards_happen w number input.Start

-- The boards after all of these events, from the start of a script, and the events of the nodes that they stand for.
abbrev pub boards_after : Script → List BoardEvent → Stepped BoardsState Event
boards_after script events = steps boards_take (boards_start script) events

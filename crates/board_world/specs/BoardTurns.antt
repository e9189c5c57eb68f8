-- A board with its registry: what an input makes of both, and what goes out.
use Rattle.std.specs.Prelude.{ℕ, List, [], ◌∷◌}
use Rattle.std.specs.List.{flat_map}
use Rattle.script_text.specs.declared.script.Script.{Script}
use Rattle.wire_msg.specs.declared.packet.Packet.{Packet}
use Rattle.xfs_base.specs.Steps.{Stepped, still, steps}
use Rattle.board.specs.State.{board_start}
use Rattle.board.specs.Transition.{Done, transition}
use Rattle.board.specs.declared.input.In.{In}
use Rattle.board.specs.declared.output.Out.{Out}
use Rattle.board.specs.declared.output.Out.TheVariants.{Send, Apply}
use Rattle.board.specs.declared.packet.BoardPacket.{BoardPacket}
use Rattle.board_world.specs.declared.board_node.BoardNode.{BoardNode}
use Rattle.board_world.specs.declared.replica.Replica.{Replica}
use Rattle.board_world.specs.Replicas.{replica_apply, replica_start}

-- the board of this number before the first event of a script
abbrev pub board_node_start : Script → ℕ → BoardNode
board_node_start script number = record { board = board_start number; registry = replica_start script }

-- what a board gives goes to another board
abbrev pub mail_of : Out → List BoardPacket
mail_of (Send packet) = packet ∷ []
mail_of (Apply command) = []

abbrev pub mail_in : List Out → List BoardPacket
mail_in outs = flat_map mail_of outs

-- or is applied to its registry
abbrev pub board_node_give : ℕ → Replica → Out → Stepped Replica Packet
board_node_give items r (Send packet) = still r
board_node_give items r (Apply command) = replica_apply items r command

abbrev pub give_all : ℕ → Replica → List Out → Stepped Replica Packet
give_all items r outs = steps (board_node_give items) r outs

-- a board and its registry after an input, what goes to other boards, and what the registry sends
pub record BoardTurn : Type 0 where
  pub node : BoardNode
  pub mail : List BoardPacket
  pub handed : List Packet

abbrev pub turn_by : ℕ → Replica → Done → BoardTurn
turn_by items registry made = record {
  node = record { board = made.state; registry = (give_all items registry made.outs).state };
  mail = mail_in made.outs;
  handed = (give_all items registry made.outs).outs;
}

unfoldable pub board_node_take : ℕ → BoardNode → In → BoardTurn
board_node_take items node input = turn_by items node.registry (transition node.board input)

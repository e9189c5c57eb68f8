-- There is one list of chosen commands, whichever boards stop.
use Rattle.std.specs.Prelude.{◌≡◌, ℕ, ◌≤◌, List, ◌++◌, length, take, slice_get, Some}
use Rattle.script_text.specs.declared.script.Script.{Script}
use Rattle.wire_msg.specs.declared.packet.Packet.{Packet}
use Rattle.xfs_base.specs.Steps.{Stepped}
use Rattle.world_base.specs.Runs.{WasSent}
use Rattle.board_protocol.specs.Basics.{Prefix}
use Rattle.board_protocol.specs.Laws.{Chosen}
use Rattle.board_protocol.specs.Step.{Steps}
use Rattle.board_protocol.specs.World as protocol
use Rattle.board.specs.State.{chosen_part}
use Rattle.board.specs.declared.command.Command.{Command}
use Rattle.board_law.specs.board_tie.Shown.{Shows, owner}
use Rattle.board_world.specs.declared.board_event.BoardEvent.{BoardEvent}
use Rattle.board_world.specs.declared.board_node.BoardNode.{BoardNode}
use Rattle.board_world.specs.declared.replica.Replica.{Replica}
use Rattle.board_world.specs.BoardRuns.{MailCame}
use Rattle.board_world.specs.NextBoards.{BoardsState, boards_after, boards_start, node_at}
use Rattle.board_world.specs.Replicas.{applied_all, replica_start}

-- the one registry, after the commands that are chosen, each once, in their order, and all that it sent
abbrev pub one_registry : Script → BoardsState → Stepped Replica Packet
one_registry script w = applied_all w.items (replica_start script) w.chosen

-- What a board has applied are the first so many of the chosen commands: its registry is the one that they make.
pub record IsBehind (script : Script) (w : BoardsState) (node : BoardNode) : Type 0 where
  pub within : node.board.applied ≤ length w.chosen
  pub registry : node.registry ≡ (applied_all w.items (replica_start script) (take node.board.applied w.chosen)).state

-- The boards are those of a moment of the abstract protocol, at which what is chosen is chosen.
pub record AreProtocols (w : BoardsState) : Type 0 where
  pub moment : protocol.World Command
  pub reached : Steps (protocol.start owner) moment
  pub shows : (place : ℕ) (node : BoardNode) → slice_get w.nodes place ≡ Some node → Shows place (moment.board place) node.board
  pub chosen : Chosen moment w.chosen

-- At a moment:
pub record HaveOneList (script : Script) (w : BoardsState) : Type 0 where
  -- what a board shows to be chosen stands at the front of the one list
  pub shown : (number : ℕ) (node : BoardNode) → node_at w number ≡ Some node → Prefix (chosen_part node.board) w.chosen
  pub behind : (number : ℕ) (node : BoardNode) → node_at w number ≡ Some node → IsBehind script w node
  -- what a board's registry sent the one registry sent
  pub handed : (packet : Packet) → WasSent w.handed packet → WasSent (one_registry script w).outs packet
  pub protocol : AreProtocols w

-- Whatever happens, where packets of boards that come were sent: there is one list.
abbrev pub BoardsHaveOneList : Type 0
BoardsHaveOneList = (script : Script) (events : List BoardEvent) → MailCame (boards_start script) events → HaveOneList script (boards_after script events).state

-- It only grows.
abbrev pub ChosenListsGrow : Type 0
ChosenListsGrow =
    (script : Script) (events more : List BoardEvent) → Prefix (boards_after script events).state.chosen (boards_after script (events ++ more)).state.chosen

-- A board had this list, with this ballot, as the front of its own.
pub record HadIt (w : BoardsState) (number its : ℕ) (commands : List Command) : Type 0 where
  pub node : BoardNode
  pub there : node_at w number ≡ Some node
  pub ballot : node.board.ballot ≡ its
  pub listed : Prefix commands node.board.list

-- A list that two boards had, with one ballot, each at a moment of its own, is chosen from then on.
abbrev pub WhatTwoHadIsChosen : Type 0
WhatTwoHadIsChosen =
    (script : Script) (events then : List BoardEvent) → MailCame (boards_start script) (events ++ then) → (one other ballot : ℕ) → (one ≡ other → ⊥)
    → (commands : List Command) → HadIt (boards_after script events).state one ballot commands → HadIt (boards_after script (events ++ then)).state other ballot commands
    → Prefix commands (boards_after script (events ++ then)).state.chosen

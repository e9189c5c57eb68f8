-- What the play of a script with boards is: a run of the script with boards, which stands for a run of it with one registry.
use Rattle.std.specs.Prelude.{◌≡◌, List}
use Rattle.node_base.specs.Setups.{IsSetup}
use Rattle.version_model.specs.declared.work.Work.{Work}
use Rattle.wire_msg.specs.declared.packet.Do.{Do}
use Rattle.wire_msg.specs.declared.packet.Packet.{Packet}
use Rattle.wire_msg.specs.NodeStep.{NodeStep}
use Rattle.xfs_base.specs.declared.node.NodeId.{NodeId}
use Rattle.xfs_base.specs.declared.node.NodeId.TheVariants.{Registry}
use Rattle.xfs_base.specs.declared.setup.Setup.{Setup}
use Rattle.world_base.specs.Runs.{IsRun, WasSent, begins_of}
use Rattle.board_law.specs.OneList.{HaveOneList, one_registry}
use Rattle.board_world.specs.BoardRuns.{IsBoardRun, Together}
use Rattle.board_world.specs.NextBoards.{boards_after}
use Rattle.board_play.specs.Begun.{BeginsAllFar, InOrderFar}
use Rattle.board_play.specs.declared.estate.BoardEstate.{BoardEstate}

pub record IsBoardPlayed {N : Type 0} (step : N → Do → NodeStep N) (first : NodeId → Setup → List Work → N) (e : BoardEstate N) : Type 0 where
  pub setup : IsSetup e.estate.script.setup
  -- what happened to nodes and boards is a run of the script with boards
  pub end : Together N
  pub board_run : IsBoardRun step first e.estate.script e.events end
  -- the boards are those that it makes, and have one list of chosen commands
  pub boards : end.boards ≡ (boards_after e.estate.script e.events).state
  pub one_list : HaveOneList e.estate.script end.boards
  -- the events of the estate are those that it stands for, and its world is the one that they make
  pub world : end.world ≡ e.estate.world
  pub stands : (boards_after e.estate.script e.events).outs ≡ e.estate.events
  -- they are a run of the script with one registry, which sent each packet that a board's registry sent
  pub one_run : IsRun step first e.estate.script e.estate.events e.estate.world
  pub handed : (packet : Packet) → WasSent end.boards.handed packet → WasSent e.estate.world.sent packet
  -- each node but the registry begins its items, in the order of their lines, each once and none left out, and the registry its first so many
  pub begins : BeginsAllFar e.estate.script.lines e.estate.events
  pub in_order : InOrderFar e.estate.script.lines e.estate.events
  -- so many as there are Begins in the list, each of the item that is the next then
  pub listed : begins_of Registry e.estate.events ≡ (one_registry e.estate.script end.boards).state.begun

-- What a run with boards stands for is a run of all nodes with one registry.
use Rattle.std.specs.Prelude.{◌≡◌, ◌+◌, ◌≤◌, List, length, slice_get, Some}
use Rattle.registry_node.specs.declared.node.RegistryNode.{RegistryNode}
use Rattle.registry_node.specs.Events.{registry_start, registry_step}
use Rattle.script_text.specs.declared.script.Script.{Script}
use Rattle.version_model.specs.declared.work.Work.{Work}
use Rattle.wire_msg.specs.declared.packet.Do.{Do}
use Rattle.wire_msg.specs.declared.packet.Packet.{Packet}
use Rattle.wire_msg.specs.NodeStep.{NodeStep}
use Rattle.xfs_base.specs.declared.node.NodeId.{NodeId}
use Rattle.xfs_base.specs.declared.node.NodeId.TheVariants.{Registry}
use Rattle.xfs_base.specs.declared.setup.Setup.{Setup}
use Rattle.world_base.specs.Cluster.{cleaner_place}
use Rattle.world_base.specs.Items.{items_of}
use Rattle.world_base.specs.Runs.{IsRun, WasSent, begins_of}
use Rattle.board_world.specs.declared.board_event.BoardEvent.{BoardEvent}
use Rattle.board_world.specs.BoardRuns.{IsBoardRun, Together}
use Rattle.board_world.specs.NextBoards.{boards_after}
use Rattle.board_law.specs.OneList.{HaveOneList, one_registry}

-- a step of the registry, as one of nodes of any kind
abbrev pub as_node : {N : Type 0} → (RegistryNode → N) → NodeStep RegistryNode → NodeStep N
as_node of stepped = record { node = of stepped.node; packets = stepped.packets; acts = stepped.acts }

-- Among nodes of any kind there is the registry: it starts and takes events as itself.
pub record HasRegistry {N : Type 0} (step : N → Do → NodeStep N) (first : NodeId → Setup → List Work → N) : Type 0 where
  pub of : RegistryNode → N
  pub starts : (setup : Setup) (items : List Work) → first Registry setup items ≡ of (registry_start setup items)
  pub steps : (node : RegistryNode) (what : Do) → step (of node) what ≡ as_node of (registry_step node what)

-- Of a run with boards:
pub record IsOneRun {N : Type 0} (step : N → Do → NodeStep N) (first : NodeId → Setup → List Work → N) (of : RegistryNode → N) (script : Script) (events : List BoardEvent) (end : Together N) : Type 0 where
  -- the boards are those that the events make by themselves, and have one list
  pub boards : end.boards ≡ (boards_after script events).state
  pub one_list : HaveOneList script end.boards
  -- the events that it stands for are a run of the script
  pub one_run : IsRun step first script (boards_after script events).outs end.world
  -- in which the registry is the one that took the chosen commands, each once, in their order
  pub registry : slice_get end.world.nodes (cleaner_place end.world.cluster + 1) ≡ Some (of (one_registry script end.boards).state.node)
  -- and began its items in their order, each once: so many of them as there were Begins chosen, each of the next item
  pub begun : begins_of Registry (boards_after script events).outs ≡ end.boards.begun
  pub counted : (one_registry script end.boards).state.begun ≡ end.boards.begun
  pub within : end.boards.begun ≤ length (items_of script.lines Registry)
  -- and sent each packet that a board's registry sent
  pub handed : (packet : Packet) → WasSent end.boards.handed packet → WasSent end.world.sent packet

-- Whatever is lost, repeated or reordered, and whichever boards stop and start.
abbrev pub RunsWithBoardsAreOneRun : Type 0 → Type 0
RunsWithBoardsAreOneRun N =
    (step : N → Do → NodeStep N) (first : NodeId → Setup → List Work → N) (has : HasRegistry step first) (script : Script) (events : List BoardEvent) (end : Together N)
    → IsBoardRun step first script events end → IsOneRun step first has.of script events end

-- What holds of the world of all nodes: nothing is held or told of logs but what was filed.
use Rattle.std.specs.Prelude.{◌≡◌, ◌⊎◌, ◌≤◌, ℕ, suc, List}
use Rattle.std.specs.List.{AllByRecursion}
use Rattle.core_world.specs.AnyNode.{any_start, any_step}
use Rattle.core_world.specs.declared.any_node.AnyNode.{AnyNode}
use Rattle.core_world.specs.declared.any_node.AnyNode.TheVariants as any
use Rattle.run_laws.specs.filed_law.FiledUpto.{filed_upto}
use Rattle.node_tellings.specs.filed_tie.CleanerReach.{CleanerReaches}
use Rattle.node_tellings.specs.filed_tie.ClientReach.{ClientReaches}
use Rattle.node_tellings.specs.filed_tie.ManagerReach.{ManagerReaches}
use Rattle.node_tellings.specs.filed_tie.Reach.{Reach, PacketTells}
use Rattle.node_tellings.specs.filed_tie.RegistryReach.{RegistryReaches}
use Rattle.node_tellings.specs.filed_tie.ServerReach.{ServerReaches}
use Rattle.log_protocol.specs.Tables.{In}
use Rattle.log_scan.specs.Transition.{least_horizon}
use Rattle.registry.specs.Board.{board_slots}
use Rattle.script_text.specs.declared.script.Script.{Script}
use Rattle.registry_node.specs.declared.node.RegistryNode.{RegistryNode}
use Rattle.version_model.specs.declared.act.Act.{Act}
use Rattle.version_model.specs.declared.act.Act.TheVariants.{Filed}
use Rattle.world_base.specs.declared.event.Event.{Event}
use Rattle.world_base.specs.declared.world.World.{World}
use Rattle.world_base.specs.NextWorld.{next_world, start_world}
use Rattle.world_base.specs.Runs.{IsRun, MayHappen}
use Rattle.xfs_base.specs.declared.segment.SegName.{SegName}

-- a node of any kind holds nothing beyond this reach
abbrev pub AnyReaches : Reach → AnyNode → Type 0
AnyReaches reach (any.Client node) = ClientReaches reach node
AnyReaches reach (any.Manager node) = ManagerReaches reach node
AnyReaches reach (any.Server node) = ServerReaches reach node
AnyReaches reach (any.Cleaner node) = CleanerReaches reach node
AnyReaches reach (any.Registry node) = RegistryReaches reach node

-- no node holds, and no packet that was sent tells, anything of logs beyond what was filed in the acts up to now
pub record ToldWasFiled (w : World AnyNode) : Type 0 where
  pub nodes : AllByRecursion (AnyReaches (filed_upto w.acts)) w.nodes
  pub packets : AllByRecursion (PacketTells (filed_upto w.acts)) w.sent

-- a segment of this log was filed that is at this horizon, or next below it
pub record FiledBelow (acts : List Act) (log low : ℕ) : Type 0 where
  pub name : SegName
  pub among : In (Filed name) acts
  pub own : name.log.0 ≡ log
  pub near : low ≤ suc name.seq

-- below a horizon nothing lies but what was filed: it is 1 at most, or no more than one beyond a segment that was filed
abbrev pub HorizonWasFiled : List Act → ℕ → ℕ → Type 0
HorizonWasFiled acts log low = (low ≤ 1) ⊎ FiledBelow acts log low

-- so is the least horizon of each log that the registry keeps
abbrev pub HorizonsWereFiled : World AnyNode → Type 0
HorizonsWereFiled w =
    (registry : RegistryNode) (log : ℕ) → In (any.Registry registry) w.nodes → 1 ≤ log → HorizonWasFiled w.acts log
    (least_horizon log (board_slots registry.board))

-- ---- the laws

abbrev pub RunsStartTold : Type 0
RunsStartTold = (script : Script) → ToldWasFiled (start_world any_start script)

abbrev pub EventsKeepTold : Type 0
EventsKeepTold = (w : World AnyNode) (event : Event) → MayHappen w event → ToldWasFiled w → ToldWasFiled (next_world any_step w event)

-- so it is of each run, and hence of each front of one
abbrev pub EveryRunToldWasFiled : Type 0
EveryRunToldWasFiled = (script : Script) (events : List Event) (w : World AnyNode) → IsRun any_step any_start script events w → ToldWasFiled w

abbrev pub ToldHorizonsWereFiled : Type 0
ToldHorizonsWereFiled = (w : World AnyNode) → ToldWasFiled w → HorizonsWereFiled w

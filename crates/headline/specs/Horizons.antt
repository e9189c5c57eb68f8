-- How far the horizons of logs are that the registry keeps: at most one beyond a segment that the owner of the log filed.
use Rattle.std.specs.Prelude.{◌≡◌, ◌⊎◌, ◌≤◌, ℕ, suc, List, Option, Some, None}
use Rattle.core_world.specs.declared.any_node.AnyNode.{AnyNode}
use Rattle.core_world.specs.declared.any_node.AnyNode.TheVariants as any
use Rattle.log_scan.specs.Transition.{least_horizon}
use Rattle.registry.specs.Board.{board_slots}
use Rattle.registry.specs.BoardState.{BoardState}
use Rattle.token_protocol.specs.Basics.{In}
use Rattle.version_model.specs.declared.act.Act.{Act}
use Rattle.version_model.specs.declared.act.Act.TheVariants as act
use Rattle.world_base.specs.declared.estate.Estate.{Estate}
use Rattle.xfs_base.specs.declared.node.NodeId.TheVariants as nodes
use Rattle.xfs_base.specs.declared.segment.SegName.{SegName}
use Rattle.xfs_base.specs.Logs.{cleaner_log}
use Rattle.headline.specs.Logs.{did}
use Rattle.headline.specs.Moments.{moment, node_named}

abbrev pub board_of : Option AnyNode → Option BoardState
board_of None = None
board_of (Some (any.Client node)) = None
board_of (Some (any.Manager node)) = None
board_of (Some (any.Server node)) = None
board_of (Some (any.Cleaner node)) = None
board_of (Some (any.Registry node)) = Some node.board

-- a horizon is at most one beyond a segment that was told to be filed, or is the first
abbrev pub Reached : List Act → ℕ → Type 0
Reached acts low = (low ≤ 1) ⊎ ((name : SegName) × In (act.Filed name) acts × (low ≤ suc name.seq))

-- the number of a log that its owner opens again where it restarts: a client's, or the cleaner's
abbrev pub IsOpened : ℕ → ℕ → Type 0
IsOpened clients c = ((1 ≤ c) × (c ≤ clients)) ⊎ (c ≡ cleaner_log.0)

-- at each moment the least horizon of each such log that the registry keeps is no further than what its owner told to be filed
abbrev pub HorizonsReached : Estate AnyNode → Type 0
HorizonsReached e = (count c : ℕ) → IsOpened e.script.setup.clients c → (b : BoardState) → board_of (node_named (moment e count) nodes.Registry) ≡ Some b
    → Reached (did e c count) (least_horizon c (board_slots b))

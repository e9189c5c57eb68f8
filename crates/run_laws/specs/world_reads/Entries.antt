-- What is told of where blocks lie at a moment of a run: each entry that a node holds, or that a packet bears, is what filed segments say; and what is named
-- as a part of a checkpoint is a segment of a manager's log, which tells nothing else.
use Rattle.std.specs.Prelude.{◌≡◌, ℕ, List}
use Rattle.std.specs.List.{AllByRecursion}
use Rattle.core_world.specs.declared.any_node.AnyNode.{AnyNode}
use Rattle.core_world.specs.declared.any_node.AnyNode.TheVariants as any
use Rattle.node_tellings.specs.entry_tie.CleanerTells.{CleanerHolds}
use Rattle.node_tellings.specs.entry_tie.ClientTells.{ClientHolds}
use Rattle.node_tellings.specs.entry_tie.ManagerTells.{ManagerHolds, PartTold}
use Rattle.node_tellings.specs.entry_tie.Told.{FiledRows, PacketTold, told_by_rows}
use Rattle.log_protocol.specs.Tables as tables
use Rattle.log_tie.specs.Setting.{Setting}
use Rattle.node_tellings.specs.part_tie.ManagerNames.{ManagerNames}
use Rattle.node_tellings.specs.part_tie.Names.{Known, PacketNames}
use Rattle.node_tellings.specs.part_tie.RegistryNames.{RegistryNames}
use Rattle.segment_format.specs.declared.segment.Segment.{Segment}
use Rattle.token_protocol.specs.Basics.{In}
use Rattle.version_model.specs.declared.act.Act.TheVariants as act
use Rattle.wire_msg.specs.declared.packet.Packet.{Packet}
use Rattle.world_base.specs.declared.estate.Estate.{Estate}
use Rattle.headline.specs.Logs.{IsThere, did, log_by}
use Rattle.run_laws.specs.world_logs.Lines.{HasLines}
use Rattle.headline.specs.Logs.Role.{OfManager}
use Rattle.xfs_base.specs.declared.segment.SegRef.{SegRef}

-- what a node holds of where blocks lie is what these rows say; servers and the registry hold nothing of it
abbrev pub AnyTold : FiledRows → AnyNode → Type 0
AnyTold rows (any.Client node) = ClientHolds (told_by_rows rows) node
AnyTold rows (any.Manager node) = ManagerHolds (told_by_rows rows) node
AnyTold rows (any.Server node) = Unit {0}
AnyTold rows (any.Cleaner node) = CleanerHolds (told_by_rows rows) node
AnyTold rows (any.Registry node) = Unit {0}

-- so it is of each node, and of each packet that was sent
pub record EntriesStand (rows : FiledRows) (nodes : List AnyNode) (sent : List Packet) : Type 0 where
  pub holds : (node : AnyNode) → In node nodes → AnyTold rows node
  pub packets : (p : Packet) → In p sent → PacketTold (told_by_rows rows) p

-- what a node names of checkpoints are these segments; only managers and the registry name any
abbrev pub AnyNames : Known → AnyNode → Type 0
AnyNames known (any.Client node) = Unit {0}
AnyNames known (any.Manager node) = ManagerNames known node
AnyNames known (any.Server node) = Unit {0}
AnyNames known (any.Cleaner node) = Unit {0}
AnyNames known (any.Registry node) = RegistryNames known node

-- so it is of each node, and of each packet that was sent
pub record PartsNamed (known : Known) (nodes : List AnyNode) (sent : List Packet) : Type 0 where
  pub holds : (node : AnyNode) → In node nodes → AnyNames known node
  pub packets : (p : Packet) → In p sent → PacketNames known p

module _ (base : Setting) (e : Estate AnyNode) (lines : HasLines base e) where
  -- A part that a checkpoint names: a segment that was in flight in a manager's log up to this count, under that name, over that group, and that the manager
  -- acted to be filed. It has Parts alone, whose rows are what these filed segments say.
  pub record PartKnown (count : ℕ) (rows : FiledRows) (ref : SegRef) : Type 0 where
    pub manager : ℕ
    pub there : IsThere e.script.setup.clients e.script.setup.managers (OfManager manager)
    pub segment : Segment
    pub flew : tables.In segment ((lines (OfManager manager) there).scene count).net.flown
    pub named : segment.name ≡ ref.name
    pub group : segment.group ≡ ref.group
    pub acted : In (act.Filed ref.name) (did e (log_by (OfManager manager)) count)
    pub told : AllByRecursion (PartTold (told_by_rows rows)) segment.items

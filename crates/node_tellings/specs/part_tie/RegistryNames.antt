-- What the registry names of checkpoints: the parts of the one that it keeps of each slot.
use Rattle.std.specs.Prelude.{List}
use Rattle.std.specs.List.{AllByRecursion}
use Rattle.registry.specs.BoardState.{BoardState}
use Rattle.registry.specs.declared.checkpoint.Checkpoint.{Checkpoint}
use Rattle.registry_node.specs.declared.node.RegistryNode.{RegistryNode}
use Rattle.registry_node.specs.Events.{registry_start, registry_step}
use Rattle.version_model.specs.declared.work.Work.{Work}
use Rattle.wire_msg.specs.declared.packet.Do.{Do}
use Rattle.xfs_base.specs.declared.segment.SegRef.{SegRef}
use Rattle.xfs_base.specs.declared.setup.Setup.{Setup}
use Rattle.node_tellings.specs.part_tie.Names.{AllKnown, DoNames, Known, NamesKnown, named_by}

abbrev pub CheckpointNames : Known → Checkpoint → Type 0
CheckpointNames known checkpoint = AllKnown known checkpoint.parts

abbrev pub BoardNames : Known → BoardState → Type 0
BoardNames known board = AllByRecursion (CheckpointNames known) board.checkpoints

abbrev pub RegistryNames : Known → RegistryNode → Type 0
RegistryNames known node = BoardNames known node.board

-- ---- the laws

-- the registry at its start names nothing
abbrev pub RegistryStartsNaming : Type 0
RegistryStartsNaming = (refs : List SegRef) (setup : Setup) (works : List Work) → RegistryNames (named_by refs) (registry_start setup works)

abbrev pub RegistryNamesRise : Type 0
RegistryNamesRise =
    (refs later : List SegRef) (node : RegistryNode) → ((ref : SegRef) → named_by refs ref → named_by later ref) → RegistryNames (named_by refs) node
    → RegistryNames (named_by later) node

-- Whatever happens to the registry: where the parts that it names, and those that the packet that comes names, are among these, then so are all that it names
-- after the event, and all that it sends.
abbrev pub RegistryNamesKnown : Type 0
RegistryNamesKnown =
    (refs : List SegRef) (node : RegistryNode) (what : Do) → RegistryNames (named_by refs) node → DoNames (named_by refs) what
    → NamesKnown (RegistryNames (named_by refs)) (named_by refs) (registry_step node what)

-- What the registry refers to: the parts of the slots' newest checkpoints.
use Rattle.std.specs.Prelude.{ℕ, List}
use Rattle.registry.specs.Checkpoints.{parts_at}
use Rattle.registry_node.specs.declared.node.RegistryNode.{RegistryNode}
use Rattle.registry_node.specs.Events.{registry_start, registry_step}
use Rattle.version_model.specs.declared.work.Work.{Work}
use Rattle.wire_msg.specs.declared.packet.Do.{Do}
use Rattle.xfs_base.specs.declared.node.NodeId.{NodeId}
use Rattle.xfs_base.specs.declared.segment.End.{End}
use Rattle.xfs_base.specs.declared.segment.SegRef.{SegRef}
use Rattle.xfs_base.specs.declared.setup.Setup.{Setup}
use Rattle.node_tellings.specs.reference_tie.Managers.{RefersThen}
use Rattle.node_tellings.specs.reference_tie.References.{DoRefers, PartsRefer, References, listed}

abbrev pub RegistryRefers : References → RegistryNode → Type 0
RegistryRefers r node = (slot : ℕ) → PartsRefer r (parts_at node.board.checkpoints slot)

-- ---- the laws (which `proofs/reference_tie/Registries.antt` has of references of any kind)

abbrev pub RegistryStartsReferring : Type 0
RegistryStartsReferring =
    (parts : List SegRef) (ends : List (NodeId × End)) (setup : Setup) (works : List Work) → RegistryRefers (listed parts ends) (registry_start setup works)

-- Whatever happens to the registry: where it, and the packet that comes, refer to these, it does then, and so does each packet that it sends.
abbrev pub RegistryKeepsReferences : Type 0
RegistryKeepsReferences =
    (parts : List SegRef) (ends : List (NodeId × End)) (node : RegistryNode) (what : Do) → RegistryRefers (listed parts ends) node
    → DoRefers (listed parts ends) what → RefersThen RegistryRefers (listed parts ends) (registry_step node what)

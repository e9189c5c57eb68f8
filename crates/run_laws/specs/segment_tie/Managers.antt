-- What a manager writes to its log: the pages of its checkpoints.
use Rattle.std.specs.Prelude.{ℕ, List}
use Rattle.manager_node.specs.declared.manager.Manager.{Manager}
use Rattle.manager_node.specs.declared.phase.Phase.{Phase}
use Rattle.manager_node.specs.declared.phase.Phase.TheVariants.{Down, Waiting, Serving}
use Rattle.manager_node.specs.Events.{manager_start, manager_step}
use Rattle.version_model.specs.declared.work.Work.{Work}
use Rattle.wire_msg.specs.declared.packet.Do.{Do}
use Rattle.xfs_base.specs.declared.setup.Setup.{Setup}
use Rattle.run_laws.specs.segment_tie.Segments.{WritesPages}

abbrev pub ManagerWrites : Phase → Type 0
ManagerWrites (Down kept) = Unit {0}
ManagerWrites (Waiting kept hello) = Unit {0}
ManagerWrites (Serving s) = WritesPages s.log

-- at the start nothing waits, and nothing is in flight
abbrev pub ManagersStartWriting : Type 0
ManagersStartWriting = (number : ℕ) (setup : Setup) (works : List Work) → ManagerWrites (manager_start number setup works).phase

-- Whatever happens to a manager: no block waits in its log, and what is in flight has Parts alone, where it was so before.
abbrev pub ManagersWritePages : Type 0
ManagersWritePages = (manager : Manager) (what : Do) → ManagerWrites manager.phase → ManagerWrites (manager_step manager what).node.phase

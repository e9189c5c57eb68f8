-- What a client writes to its log: while it serves, versions of its own; while it opens its log, nothing.
use Rattle.std.specs.Prelude.{ℕ, List}
use Rattle.client_node.specs.declared.client.Client.{Client}
use Rattle.client_node.specs.declared.phase.Phase.{Phase}
use Rattle.client_node.specs.declared.phase.Phase.TheVariants.{Down, Opening, Serving as Serves}
use Rattle.client_node.specs.Phases.{client_step}
use Rattle.client_node.specs.Starting.{client_start}
use Rattle.log_owner.specs.declared.opening.Stage.{Stage}
use Rattle.log_owner.specs.declared.opening.Stage.TheVariants as stage
use Rattle.node_slots.specs.node_tie.AskingEvents.{PhaseAsks}
use Rattle.version_model.specs.declared.work.Work.{Work}
use Rattle.wire_msg.specs.declared.packet.Do.{Do}
use Rattle.xfs_base.specs.declared.setup.Setup.{Setup}
use Rattle.run_laws.specs.segment_tie.Segments.{WritesOriginals, WritesNothing}

-- once an opening has read its log back, the log writes its opening segment
abbrev pub StageWrites : Stage → Type 0
StageWrites (stage.Scanning s) = Unit {0}
StageWrites (stage.Settling s) = WritesNothing s.log

abbrev pub ClientWrites : Phase → Type 0
ClientWrites (Down l) = Unit {0}
ClientWrites (Opening l o) = StageWrites o.stage
ClientWrites (Serves s) = WritesOriginals s.log

-- at the start nothing waits, and nothing is in flight
abbrev pub ClientsStartWriting : Type 0
ClientsStartWriting = (number : ℕ) (setup : Setup) (works : List Work) → ClientWrites (client_start number setup works).phase

-- Whatever happens to a client that asks for its call, what waits and what is in flight after the event is so, where it was before. So what it acts to be filed
-- while it serves, which was in flight before the event, was so.
abbrev pub ClientsWriteOriginals : Type 0
ClientsWriteOriginals =
    (client : Client) (what : Do) → PhaseAsks client.phase → ClientWrites client.phase → ClientWrites (client_step client what).node.phase

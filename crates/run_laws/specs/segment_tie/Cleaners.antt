-- What the cleaner writes to its log: while it serves, what it moves; while it opens its log, nothing.
use Rattle.std.specs.Prelude.{◌<◌, List}
use Rattle.cleaner_serving.specs.declared.emptying.Emptying.{Emptying}
use Rattle.cleaner_node.specs.CleanerEvents.{cleaner_start, cleaner_step}
use Rattle.cleaner_node.specs.declared.cleaner.Cleaner.{Cleaner}
use Rattle.cleaner_node.specs.declared.cleaner.Phase.{Phase}
use Rattle.cleaner_node.specs.declared.cleaner.Phase.TheVariants.{Down, Opening, Serving}
use Rattle.node_tellings.specs.entry_tie.CleanerTells.{JobTold}
use Rattle.node_tellings.specs.entry_tie.Told.{Told}
use Rattle.version_model.specs.declared.work.Work.{Work}
use Rattle.wire_msg.specs.declared.body.Body.{Body}
use Rattle.wire_msg.specs.declared.body.Body.TheVariants as body
use Rattle.wire_msg.specs.declared.packet.Do.{Do}
use Rattle.wire_msg.specs.declared.packet.Do.TheVariants.{Begin, Deliver, Tick}
use Rattle.xfs_base.specs.declared.setup.Setup.{Setup}
use Rattle.run_laws.specs.segment_tie.Clients.{StageWrites}
use Rattle.run_laws.specs.segment_tie.Segments.{WritesCopies}

-- entries of versions from 1 on
abbrev pub versions : Told
versions block entry = 0 < entry.ver

-- the versions that its job is to move are ones from 1 on
pub record EmptyingWrites (e : Emptying) : Type 0 where
  pub job : JobTold versions e.job
  pub log : WritesCopies e.log

abbrev pub CleanerWrites : Phase → Type 0
CleanerWrites (Down l) = Unit {0}
CleanerWrites (Opening l o) = StageWrites o.stage
CleanerWrites (Serving e) = EmptyingWrites e

-- a manager that tells of a live block tells a version from 1 on
abbrev pub TellsVersion : Body → Type 0
TellsVersion (body.Live m) = 0 < m.entry.ver
TellsVersion _ = Unit {0}

abbrev pub BringsVersions : Do → Type 0
BringsVersions Begin = Unit {0}
BringsVersions (Deliver packet) = TellsVersion packet.body
BringsVersions Tick = Unit {0}

-- at the start nothing waits, and nothing is in flight
abbrev pub CleanerStartsWriting : Type 0
CleanerStartsWriting = (setup : Setup) (works : List Work) → CleanerWrites (cleaner_start setup works).phase

-- Whatever happens to the cleaner: what waits and what is in flight after the event is so, where it was before.
abbrev pub CleanerWritesCopies : Type 0
CleanerWritesCopies = (cleaner : Cleaner) (what : Do) → BringsVersions what → CleanerWrites cleaner.phase → CleanerWrites (cleaner_step cleaner what).node.phase

-- What the cleaner holds of where blocks lie.
use Rattle.std.specs.Prelude.{◌≡◌, ℕ, ◌+◌, List, Option, Some, None, IfSome}
use Rattle.std.specs.List.{AllByRecursion}
use Rattle.cleaner_serving.specs.declared.emptying.Emptying.{Emptying}
use Rattle.cleaner_node.specs.CleanerEvents.{cleaner_start, cleaner_step}
use Rattle.cleaner_node.specs.declared.cleaner.Cleaner.{Cleaner}
use Rattle.cleaner_node.specs.declared.cleaner.Phase.{Phase}
use Rattle.cleaner_node.specs.declared.cleaner.Phase.TheVariants.{Down, Opening, Serving}
use Rattle.cleaner_job.specs.declared.job.Job.{Job}
use Rattle.cleaner_job.specs.Starting.{cleaner_log}
use Rattle.client_log.specs.LogState.{LogState}
use Rattle.log_flight.specs.declared.dirty.Change.{Change}
use Rattle.log_flight.specs.Flights.{FlightState}
use Rattle.log_owner.specs.declared.opening.Stage.{Stage}
use Rattle.log_owner.specs.declared.opening.Stage.TheVariants as stage
use Rattle.segment_format.specs.declared.segment.Item.{Item}
use Rattle.segment_format.specs.declared.segment.Item.TheVariants as item
use Rattle.stripe_cleaner.specs.Checks.{moved_once}
use Rattle.stripe_cleaner.specs.declared.checks.Check.{Check}
use Rattle.stripe_cleaner.specs.declared.checks.Fate.{Fate}
use Rattle.stripe_cleaner.specs.declared.checks.Fate.TheVariants.{Live}
use Rattle.stripe_cleaner.specs.declared.phase.Phase as jobs
use Rattle.stripe_cleaner.specs.declared.phase.Phase.TheVariants.{Checking}
use Rattle.version_model.specs.declared.act.Act.{Act}
use Rattle.version_model.specs.declared.work.Work.{Work}
use Rattle.wire_msg.specs.declared.packet.Do.{Do}
use Rattle.xfs_base.specs.declared.block.BlockId.{BlockId}
use Rattle.xfs_base.specs.declared.entry.Entry.{Entry}
use Rattle.xfs_base.specs.declared.setup.Setup.{Setup}
use Rattle.node_tellings.specs.entry_tie.ClientTells.{FeedTold, FlightOwed, StageOwed}
use Rattle.node_tellings.specs.entry_tie.Told.{Told, FiledRows, told_by_rows, HoldsRise, EventsTellTold}

-- ---- what it holds

-- an entry that is told of the block, moved once more
pub record MovedTold (told : Told) (block : BlockId) (entry : Entry) : Type 0 where
  pub before : Entry
  pub before_told : told block before
  pub moved : entry ≡ moved_once before

-- a block that is live is to be moved from where it is told
abbrev pub FateTold : Told → BlockId → Fate → Type 0
FateTold told block (Live entry value) = MovedTold told block entry
FateTold told block _ = Unit {0}

abbrev pub CheckTold : Told → Check → Type 0
CheckTold told check = FateTold told check.block check.fate

abbrev pub CheckingTold : Told → jobs.Phase → Type 0
CheckingTold told (Checking job segment checks) = AllByRecursion (CheckTold told) checks
CheckingTold told _ = Unit {0}

abbrev pub JobTold : Told → Option Job → Type 0
JobTold told None = Unit {0}
JobTold told (Some job) = CheckingTold told job.cleaning.phase

-- what waits in its log is moved from where it is told
abbrev pub WaitTold : Told → BlockId × Change → Type 0
WaitTold told wait = MovedTold told wait.0 wait.1.entry

-- a version of the block that is told, moved once more
pub record VersionTold (told : Told) (block : BlockId) (its_ver its_hop : ℕ) : Type 0 where
  pub before : Entry
  pub before_told : told block before
  pub ver : its_ver ≡ before.ver
  pub hop : its_hop ≡ before.hop + 1

-- each Delta of a segment that it writes says of such a version
abbrev pub ItemTold : Told → Item → Type 0
ItemTold told (item.Block block value) = Unit {0}
ItemTold told (item.Delta block ver hop at) = VersionTold told block ver hop
ItemTold told (item.Part slot rows) = Unit {0}

abbrev pub FlightMoves : Told → FlightState → Type 0
FlightMoves told flight = AllByRecursion (ItemTold told) flight.segment.items

-- what waits and what is in flight
pub record MovesOn (told : Told) (dirty : List (BlockId × Change)) (flies : Option FlightState) : Type 0 where
  pub waits : AllByRecursion (WaitTold told) dirty
  pub flight : IfSome flies (FlightMoves told)

abbrev pub LogMoves : Told → LogState → Type 0
LogMoves told log = MovesOn told log.dirty log.flight

-- an opening has only the opening segment in flight
abbrev pub StageHolds : Told → Stage → Type 0
StageHolds told (stage.Scanning s) = Unit {0}
StageHolds told (stage.Settling s) = LogMoves told s.log

pub record EmptyingHolds (told : Told) (e : Emptying) : Type 0 where
  pub job : JobTold told e.job
  pub log : LogMoves told e.log
  pub feed : FeedTold told e.feed

abbrev pub PhaseHolds : Told → Phase → Type 0
PhaseHolds told (Down l) = Unit {0}
PhaseHolds told (Opening l o) = StageHolds told o.stage
PhaseHolds told (Serving e) = EmptyingHolds told e

abbrev pub CleanerHolds : Told → Cleaner → Type 0
CleanerHolds told cleaner = PhaseHolds told cleaner.phase

-- ---- what it is owed

-- the segment in flight, and what was read back, where they are acted to be filed, say what is told
abbrev pub PhaseOwed : Told → List Act → Phase → Type 0
PhaseOwed told acts (Down l) = Unit {0}
PhaseOwed told acts (Opening l o) = StageOwed told acts o.stage
PhaseOwed told acts (Serving e) = FlightOwed told acts cleaner_log e.log

abbrev pub CleanerOwed : Told → Cleaner → Do → List Act → Type 0
CleanerOwed told cleaner what acts = PhaseOwed told acts cleaner.phase

-- ---- the law

-- the cleaner at its start holds nothing
abbrev pub CleanerStartsTold : Type 0
CleanerStartsTold = (rows : FiledRows) (setup : Setup) (works : List Work) → CleanerHolds (told_by_rows rows) (cleaner_start setup works)

-- what filed segments said they say later too
abbrev pub CleanerHoldsRise : Type 0
CleanerHoldsRise = HoldsRise Cleaner CleanerHolds

-- whatever happens to the cleaner
abbrev pub CleanerTellsTold : Type 0
CleanerTellsTold = EventsTellTold Cleaner CleanerHolds CleanerOwed cleaner_step

-- What a client holds of where blocks lie.
use Rattle.std.specs.Prelude.{◌≡◌, ℕ, List, Contains, Option, Some, None, IfSome}
use Rattle.std.specs.List.{AllByRecursion}
use Rattle.client_log.specs.LogState.{LogState}
use Rattle.client_log.specs.Transition.{end_of}
use Rattle.client_node.specs.declared.client.Client.{Client}
use Rattle.client_node.specs.declared.phase.Phase.TheVariants.{Down, Opening, Serving as Serves}
use Rattle.client_node.specs.declared.phase.Phase.{Phase}
use Rattle.client_node.specs.Phases.{client_step}
use Rattle.client_node.specs.Starting.{client_start}
use Rattle.client_call.specs.Reads.{reading_in}
use Rattle.client_serving.specs.declared.serving.Serving.{Serving}
use Rattle.client_serving.specs.Lasting.{log_of}
use Rattle.delta_feed.specs.declared.feed.FiledDeltas.{FiledDeltas}
use Rattle.delta_feed.specs.FeedState.{FeedState}
use Rattle.log_flight.specs.Flights.{FlightState}
use Rattle.log_owner.specs.declared.opening.Stage.{Stage}
use Rattle.log_owner.specs.declared.opening.Stage.TheVariants as stage
use Rattle.log_owner.specs.Sending.{name_of}
use Rattle.segment_format.specs.declared.segment.Segment.{Segment}
use Rattle.segment_format.specs.Rows.{rows_of}
use Rattle.segment_reading.specs.declared.target.BlockAt.{BlockAt}
use Rattle.segment_reading.specs.Reading.{ReadingState}
use Rattle.token_client.specs.declared.held.Fetch.{Fetch}
use Rattle.token_client.specs.State.{TokensState, held_of}
use Rattle.version_model.specs.declared.act.Act.{Act}
use Rattle.version_model.specs.declared.act.Act.TheVariants.{Filed}
use Rattle.version_model.specs.declared.work.Work.{Work}
use Rattle.wire_msg.specs.declared.packet.Do.{Do}
use Rattle.xfs_base.specs.declared.block.BlockId.{BlockId}
use Rattle.xfs_base.specs.declared.entry.Place.{Place}
use Rattle.xfs_base.specs.declared.segment.LogId.{LogId}
use Rattle.xfs_base.specs.declared.segment.SegRef.{SegRef}
use Rattle.xfs_base.specs.declared.setup.Setup.{Setup}
use Rattle.node_tellings.specs.entry_tie.Told.{Told, RowsTold, PlaceTold, FiledRows, told_by_rows, HoldsRise, EventsTellTold}

-- ---- what it holds

-- a block that is being fetched lies where it is told
abbrev pub FetchTold : Told → BlockId → Option Fetch → Type 0
FetchTold told block None = Unit {0}
FetchTold told block (Some fetch) = PlaceTold told block fetch.ver fetch.place

-- it is told that some version of the block lies at this place
pub record LiesTold (told : Told) (block : BlockId) (place : Place) : Type 0 where
  pub ver : ℕ
  pub there : PlaceTold told block ver place

-- a block is read from a segment where it is told to lie
abbrev pub BlockTold : Told → SegRef → Option BlockAt → Type 0
BlockTold told seg None = Unit {0}
BlockTold told seg (Some wanted) = LiesTold told wanted.block (record { seg = seg; item = wanted.item })

abbrev pub ReadingTold : Told → Option ReadingState → Type 0
ReadingTold told its = IfSome its (λ (r : ReadingState). BlockTold told r.target.seg r.target.block)

-- what is kept of a settled segment, to be told to managers
abbrev pub DeltasTold : Told → FiledDeltas → Type 0
DeltasTold told deltas = RowsTold told deltas.rows

abbrev pub FeedTold : Told → FeedState → Type 0
FeedTold told feed = AllByRecursion (DeltasTold told) feed.filed

-- what it fetches and reads lies where it is told, and its feed keeps what is told
pub record KeepsTold (told : Told) (its : TokensState) (kept : FeedState) (reads : Option ReadingState) : Type 0 where
  pub fetches : (block : BlockId) → FetchTold told block (held_of its.blocks block).fetch
  pub feed : FeedTold told kept
  pub reading : ReadingTold told reads

abbrev pub ServingHolds : Told → Serving → Type 0
ServingHolds told s = KeepsTold told s.tokens s.feed (reading_in s.call)

abbrev pub PhaseHolds : Told → Phase → Type 0
PhaseHolds told (Down l) = Unit {0}
PhaseHolds told (Opening l o) = Unit {0}
PhaseHolds told (Serves s) = ServingHolds told s

abbrev pub ClientHolds : Told → Client → Type 0
ClientHolds told client = PhaseHolds told client.phase

-- ---- what it is owed

-- the segment that its log has in flight, where it is acted to be filed, says what is told
abbrev pub FlightOwed : Told → List Act → LogId → LogState → Type 0
FlightOwed told acts log s =
    (flight : FlightState) → s.flight ≡ Some flight → Contains acts (Filed (name_of log (end_of flight.segment))) → RowsTold told (rows_of flight.segment)

-- so does a segment that was read back
abbrev pub SegmentOwed : Told → List Act → Segment → Type 0
SegmentOwed told acts segment = Contains acts (Filed segment.name) → RowsTold told (rows_of segment)

-- once an opening has read its log back, it is owed so of what it read
abbrev pub StageOwed : Told → List Act → Stage → Type 0
StageOwed told acts (stage.Scanning s) = Unit {0}
StageOwed told acts (stage.Settling s) = AllByRecursion (SegmentOwed told acts) s.chain

abbrev pub PhaseOwed : Told → List Act → Phase → Type 0
PhaseOwed told acts (Down l) = Unit {0}
PhaseOwed told acts (Opening l o) = StageOwed told acts o.stage
PhaseOwed told acts (Serves s) = FlightOwed told acts (log_of s.lasting) s.log

abbrev pub ClientOwed : Told → Client → Do → List Act → Type 0
ClientOwed told client what acts = PhaseOwed told acts client.phase

-- ---- the law

-- a client at its start holds nothing
abbrev pub ClientStartsTold : Type 0
ClientStartsTold = (rows : FiledRows) (number : ℕ) (setup : Setup) (works : List Work) → ClientHolds (told_by_rows rows) (client_start number setup works)

-- what filed segments said they say later too
abbrev pub ClientHoldsRise : Type 0
ClientHoldsRise = HoldsRise Client ClientHolds

-- whatever happens to a client
abbrev pub ClientsTellTold : Type 0
ClientsTellTold = EventsTellTold Client ClientHolds ClientOwed client_step

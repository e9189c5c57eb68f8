-- That what the cleaner writes into its log was answered Live, and is moved once.
use Rattle.std.specs.Prelude.{◌≡◌, ◌<◌, ℕ, List, Option, Some, None}
use Rattle.std.specs.List.{AllByRecursion}
use Rattle.cleaner_node.specs.CleanerEvents.{cleaner_start, takes}
use Rattle.cleaner_node.specs.declared.cleaner.Cleaner.{Cleaner}
use Rattle.cleaner_node.specs.declared.cleaner.Phase.{Phase}
use Rattle.cleaner_node.specs.declared.cleaner.Phase.TheVariants.{Down, Opening, Serving}
use Rattle.cleaner_job.specs.declared.job.Job.{Job}
use Rattle.client_log.specs.LogState.{LogState}
use Rattle.index_tie.specs.Net.{Packet, IsMove}
use Rattle.index_tie.specs.Net.Packet.{AnsweredLive}
use Rattle.index_tie.specs.Growth.{said_of}
use Rattle.log_flight.specs.declared.dirty.Change.{Change}
use Rattle.log_flight.specs.Flights.{FlightState}
use Rattle.log_owner.specs.declared.opening.Stage.{Stage}
use Rattle.log_owner.specs.declared.opening.Stage.TheVariants as stage
use Rattle.log_protocol.specs.Tables.{In}
use Rattle.segment_format.specs.declared.segment.Item.{Item}
use Rattle.segment_format.specs.declared.segment.Item.TheVariants.{Block, Delta, Part}
use Rattle.stripe_cleaner.specs.Checks.{moved_once}
use Rattle.stripe_cleaner.specs.declared.checks.Check.{Check}
use Rattle.stripe_cleaner.specs.declared.checks.Fate.{Fate}
use Rattle.stripe_cleaner.specs.declared.checks.Fate.TheVariants.{Live}
use Rattle.stripe_cleaner.specs.declared.phase.Phase as phases
use Rattle.stripe_cleaner.specs.declared.phase.Phase.TheVariants.{Checking}
use Rattle.version_model.specs.declared.work.Work.{Work}
use Rattle.wire_msg.specs.declared.body.Body.{Body}
use Rattle.wire_msg.specs.declared.body.Body.TheVariants as body
use Rattle.wire_msg.specs.declared.packet.Do.{Do}
use Rattle.wire_msg.specs.declared.packet.Do.TheVariants.{Begin, Deliver, Tick}
use Rattle.xfs_base.specs.Blocks.{slot_of}
use Rattle.xfs_base.specs.declared.block.BlockId.{BlockId}
use Rattle.xfs_base.specs.declared.entry.Entry.{Entry}
use Rattle.xfs_base.specs.declared.setup.Setup.{Setup}

module _ (part : ℕ) (sent : List Packet) where
  -- an entry of a block of the slot was answered Live
  abbrev pub WasLive : BlockId → Entry → Type 0
  WasLive b entry = slot_of b.ino.0 ≡ part → In (AnsweredLive b entry) sent

  -- this is such an entry, moved once
  pub record IsMovedOnce (b : BlockId) (e : Entry) : Type 0 where
    pub entry : Entry
    pub answered : WasLive b entry
    pub version : e.ver ≡ (moved_once entry).ver
    pub hop : e.hop ≡ (moved_once entry).hop

  -- so is what waits in a log, and what it has in flight
  abbrev pub ItemMoves : Item → Type 0
  ItemMoves (Block block value) = Unit {0}
  ItemMoves (Delta block ver hop item) = IsMovedOnce block (record { ver = ver; hop = hop; place = None })
  ItemMoves (Part slot rows) = Unit {0}

  pub record LogMoves (s : LogState) : Type 0 where
    pub dirty : AllByRecursion (λ (c : BlockId × Change). IsMovedOnce c.0 c.1.entry) s.dirty
    pub flight : (f : FlightState) → s.flight ≡ Some f → AllByRecursion ItemMoves f.segment.items

  -- and what a job is to move
  abbrev pub FateMoves : BlockId → Fate → Type 0
  FateMoves block (Live e value) = IsMovedOnce block e
  FateMoves block _ = Unit {0}

  abbrev pub CheckMoves : Check → Type 0
  CheckMoves c = FateMoves c.block c.fate

  abbrev pub PhaseMoves : phases.Phase → Type 0
  PhaseMoves (Checking j segment checks) = AllByRecursion CheckMoves checks
  PhaseMoves _ = Unit {0}

  abbrev pub JobMoves : Option Job → Type 0
  JobMoves None = Unit {0}
  JobMoves (Some job) = PhaseMoves job.cleaning.phase

  abbrev pub StageMoves : Stage → Type 0
  StageMoves (stage.Scanning s) = Unit {0}
  StageMoves (stage.Settling s) = LogMoves s.log

  abbrev pub CleanerMoves : Phase → Type 0
  CleanerMoves (Down l) = Unit {0}
  CleanerMoves (Opening l o) = StageMoves o.stage
  CleanerMoves (Serving e) = LogMoves e.log × JobMoves e.job

  -- a Live that comes was answered
  abbrev pub BodyAnswers : Body → Type 0
  BodyAnswers (body.Live m) = WasLive m.block m.entry
  BodyAnswers _ = Unit {0}

  abbrev pub DoAnswers : Do → Type 0
  DoAnswers (Deliver packet) = BodyAnswers packet.body
  DoAnswers Begin = Unit {0}
  DoAnswers Tick = Unit {0}

-- At the start, and after each event, where a Live that came was answered.
abbrev pub CleanerStartsMoving : Type 0
CleanerStartsMoving = (part : ℕ) (sent : List Packet) (setup : Setup) (works : List Work) → CleanerMoves part sent (cleaner_start setup works).phase

abbrev pub CleanerMovesAnswered : Type 0
CleanerMovesAnswered =
    (part : ℕ) (sent : List Packet) (cleaner : Cleaner) (what : Do) → CleanerMoves part sent cleaner.phase → DoAnswers part sent what
    → CleanerMoves part sent (takes cleaner.peers cleaner.phase what).state

-- What is in flight says of each block of the slot what was answered Live, moved once.
abbrev pub FlightsAreMoves : Type 0
FlightsAreMoves =
    (part : ℕ) (sent : List Packet) (s : LogState) (f : FlightState) → LogMoves part sent s → s.flight ≡ Some f → (b : BlockId) → slot_of b.ino.0 ≡ part
    → 0 < (said_of f.segment b).ver → IsMove b sent f.segment

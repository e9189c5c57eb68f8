-- What an opening of a log, by a client or by the cleaner, holds of what was filed.
use Rattle.std.specs.Prelude.{◌≡◌, ℕ, suc, ◌≤◌, List, IfSome}
use Rattle.std.specs.List.{AllByRecursion}
use Rattle.log_owner.specs.declared.opening.Opening.{Opening}
use Rattle.log_owner.specs.declared.opening.Settling.{Settling}
use Rattle.log_owner.specs.declared.opening.Stage.{Stage}
use Rattle.log_owner.specs.declared.opening.Stage.TheVariants as stage
use Rattle.log_scan.specs.declared.stage.Stage as scan_stages
use Rattle.log_scan.specs.declared.stage.Stage.TheVariants.{Reads}
use Rattle.log_scan.specs.ScanState.{ScanState}
use Rattle.segment_format.specs.declared.segment.Segment.{Segment}
use Rattle.node_tellings.specs.filed_tie.Reach.{Reach}

-- the segments are of this log
abbrev pub AreOfLog : ℕ → List Segment → Type 0
AreOfLog log segments = AllByRecursion (λ segment. segment.name.log.0 ≡ log) segments

-- what was read back is of this log, and so is what is read now
abbrev pub ReadsLog : ℕ → scan_stages.Stage → Type 0
ReadsLog log (Reads back reading) = AreOfLog log back.chain × IfSome reading (λ r. r.target.seg.name.log.0 ≡ log)
ReadsLog log _ = Unit {0}

-- the horizon below which nothing is read, where the log can have one, is above nothing but what was filed
pub record ScanReaches (reach : Reach) (log : ℕ) (scan : ScanState) : Type 0 where
  pub own : scan.opening.log.0 ≡ log
  pub low : 1 ≤ log → scan.opening.low ≤ suc (reach log)
  pub chain : ReadsLog log scan.stage

-- the same, once the opening segment is in flight; what was read back and that segment are filed at the end
pub record SettlingReaches (reach : Reach) (log : ℕ) (settling : Settling) : Type 0 where
  pub low : settling.low ≤ suc (reach log)
  pub chain : AreOfLog log settling.chain

abbrev pub StageReaches : Reach → ℕ → Stage → Type 0
StageReaches reach log (stage.Scanning scanning) = ScanReaches reach log scanning.scan
StageReaches reach log (stage.Settling settling) = SettlingReaches reach log settling

pub record OpeningReaches (reach : Reach) (log : ℕ) (opening : Opening) : Type 0 where
  pub own : opening.known.owner.log.0 ≡ log
  pub stage : StageReaches reach log opening.stage

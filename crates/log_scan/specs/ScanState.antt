-- What an opening keeps.
use Rattle.std.specs.Prelude.{ℕ, None, Some, ◌≡◌}
use Rattle.xfs_base.specs.declared.segment.LogId.{LogId}
use Rattle.log_scan.specs.declared.opening.Opening.{Opening}
use Rattle.log_scan.specs.declared.stage.Stage.{Stage}
use Rattle.log_scan.specs.declared.stage.Stage.TheVariants.{Hails, Reads}
use Rattle.segment_reading.specs.Reading.{ReadingState}
use Rattle.log_scan.specs.declared.stage.Backward.{Backward}
use Rattle.xfs_base.specs.declared.segment.SegRef.{SegRef}

-- what it keeps wherever it stands, and where it stands
pub record ScanState : Type 0 where
  pub opening : Opening
  pub stage : Stage

-- the registry is to be asked, by the question of number 1; nothing is known of groups and horizons
abbrev pub opening_begin : LogId → ℕ → Opening
opening_begin log inc = record { log = log; inc = inc; ask = 1; low = 1; groups = None }

abbrev pub scan_start : LogId → ℕ → ScanState
scan_start log inc = record { opening = opening_begin log inc; stage = Hails }

-- this is the segment that an opening reads
abbrev pub IsRead : Stage → SegRef → Type 0
IsRead stage segment = (b : Backward) × (r : ReadingState) × (stage ≡ Reads b (Some r)) × (r.target.seg ≡ segment)

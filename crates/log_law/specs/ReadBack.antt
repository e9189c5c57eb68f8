-- What a reopening reads back: from the end behind which its opening segment is written down to the horizon that it took last; and all that was filed lies
-- before that segment.
use Rattle.std.specs.Prelude.{◌≡◌, ◌+◌, ◌<◌, ◌≤◌, ℕ, false, List, [], ◌∷◌, length, IfSome}
use Rattle.client_log.specs.LogState.{LogState}
use Rattle.log_protocol.specs.Tables.{In}
use Rattle.log_scan.specs.declared.input.In as inputs
use Rattle.log_scan.specs.ScanState.{ScanState}
use Rattle.log_scan.specs.Transition.{transition}
use Rattle.log_tie.specs.Setting.{Setting}
use Rattle.segment_format.specs.declared.segment.Segment.{Segment}
use Rattle.xfs_base.specs.declared.segment.SegName.{SegName}
use Rattle.log_law.specs.Net.{Net, Told, chain_in}
use Rattle.log_law.specs.Net.Owner.{Opening, Writing}
use Rattle.log_law.specs.Events.{CameToScan, Happens}
use Rattle.log_law.specs.Events.Runs.{On}
use Rattle.log_law.specs.Laws.{Moment}
use Rattle.log_law.specs.Restarts.{EndsRestart, IsSureRun}

-- the numbers of these segments rise one by one, up to this one
abbrev pub EndsAt : ℕ → List Segment → Type 0
EndsAt highest [] = Unit {0}
EndsAt highest (s ∷ segments) = (s.name.seq + length segments ≡ highest) × EndsAt highest segments

-- The chain that is told is without a gap from its end down to this horizon, which isn't beyond the least one.
pub record ReadsDown (n : Net) (low : ℕ) (t : Told) : Type 0 where
  pub some : 0 < low
  pub past : low ≤ n.low
  pub numbers : EndsAt t.end.seq t.segments
  pub down : t.end.seq < low + length t.segments

-- Whatever comes to an opening: where it tells its chain, that goes down to the horizon that it took last.
abbrev pub OpeningsReadDown : Type 0
OpeningsReadDown =
    (g : Setting) (n : Net) → Moment g n → (s : ScanState) → n.owner ≡ Opening s → (i : inputs.In) → CameToScan g n i
    → IfSome (chain_in (transition s i).outs) (ReadsDown n (transition s i).state.opening.low)

-- At the event that ends a restart no segment that was filed before has the number of the opening segment, or a greater one; while no restart that ended was
-- doubtful.
abbrev pub ReopensBehind : Type 0
ReopensBehind =
    (g : Setting) (n o : Net) → g.doubts ≡ false → (m : Moment g n) (happens : Happens g n o) → IsSureRun (On m.run happens) → EndsRestart n o
    → (chain : List Segment) (s : LogState) → n.owner ≡ Writing chain s → (name : SegName) → In name n.filed → name.seq ≤ s.end.seq

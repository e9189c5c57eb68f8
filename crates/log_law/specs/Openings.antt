-- Openings that go on: behind the end that one tells a log can be started, as long as the number of all that was in flight has one after it.
use Rattle.std.specs.Prelude.{◌≡◌, ◌+◌, ◌<◌, ◌≤◌, ◌⊎◌, ◌^◌, ℕ, suc, true, false, IfSome, if◌then◌else◌}
use Rattle.xfs_base.specs.declared.segment.End.{End}
use Rattle.segment_format.specs.declared.segment.Segment.{Segment}
use Rattle.segment_format.specs.Ranges.{FitsPass}
use Rattle.client_log.specs.Transition.{has_next}
use Rattle.log_scan.specs.declared.input.In as inputs
use Rattle.log_scan.specs.ScanState.{ScanState}
use Rattle.log_scan.specs.Transition.{transition}
use Rattle.log_protocol.specs.Tables.{In}
use Rattle.log_tie.specs.Setting.{Setting}
use Rattle.log_law.specs.Net.{Net, Owner, chain_in}
use Rattle.log_law.specs.Net.Owner.{Down, Opening, Writing, Serving}
use Rattle.log_law.specs.Events.{CameToScan, Runs}
use Rattle.log_law.specs.Laws.{Moment}
use Rattle.log_law.specs.Restarts.{is_down, is_serving}

-- ---- the end of an opening

-- the numbers of an end fit the format
abbrev pub EndFits : End → Type 0
EndFits e = (e.seq < 2 ^ 32) × FitsPass e.pass × (e.group < 2 ^ 32)

-- they do, and its number has one after it
abbrev pub GoesOn : End → Type 0
GoesOn e = (has_next e.seq ≡ true) × EndFits e

-- the number of each segment that was in flight has one after it
abbrev pub AllHaveNext : Net → Type 0
AllHaveNext n = (s : Segment) → In s n.flown → has_next s.name.seq ≡ true

-- Then behind the end that an opening tells, whatever comes next, a log can go on.
abbrev pub OpeningsGoOn : Type 0
OpeningsGoOn =
    (g : Setting) (n : Net) → Moment g n → AllHaveNext n → (s : ScanState) → n.owner ≡ Opening s → (i : inputs.In) → CameToScan g n i
    → IfSome (chain_in (transition s i).outs) (λ t. GoesOn t.end)

-- ---- what begins to fly

-- the number after the end of a log that is written; where none is, 0
abbrev pub next_number : Owner → ℕ
next_number Down = 0
next_number (Opening s) = 0
next_number (Writing chain s) = s.end.seq + 1
next_number (Serving s) = s.end.seq + 1

-- the boot that the owner is in, or that its next restart begins
abbrev pub boot_of : Net → ℕ
boot_of n = if is_down n.owner then suc n.inc else n.inc

-- Unless the owner falls, what begins to fly has no number beyond the one after the end.
abbrev pub FliesNext : Type 0
FliesNext =
    (g : Setting) (n o : Net) → Moment g n → Runs g n o → boot_of o ≡ boot_of n → (s : Segment) → In s o.flown
    → In s n.flown ⊎ (s.name.seq ≤ next_number o.owner)

-- ---- what is filed

-- While a log is opened nothing is filed: along a run in one boot, up to a moment at which the owner doesn't serve.
abbrev pub NothingFiledOpening : Type 0
NothingFiledOpening = (g : Setting) (n o : Net) → Moment g n → Runs g n o → boot_of o ≡ boot_of n → is_serving o.owner ≡ false → o.filed ≡ n.filed

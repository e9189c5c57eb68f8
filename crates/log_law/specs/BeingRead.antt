-- What an opening reads is whole: the segment that the one after it names, or that the pick told, whether it was filed or not.
use Rattle.std.specs.Prelude.{◌≡◌, ℕ, ◌<◌, ◌⊎◌, length, Some}
use Rattle.xfs_base.specs.declared.segment.SegRef.{SegRef}
use Rattle.segment_format.specs.declared.segment.Segment.{Segment}
use Rattle.segment_reading.specs.Reading.{ReadingState}
use Rattle.log_scan.specs.declared.stage.Backward.{Backward}
use Rattle.log_scan.specs.declared.stage.Stage.TheVariants.{Reads}
use Rattle.log_scan.specs.ScanState.{ScanState}
use Rattle.log_protocol.specs.Tables.{In}
use Rattle.log_tie.specs.Setting.{Setting}
use Rattle.log_tie.specs.Seen.{members_of}
use Rattle.log_law.specs.Net.{Net}
use Rattle.log_law.specs.Net.Owner.{Opening}
use Rattle.log_law.specs.Laws.{Moment, Holds, IsLater}

-- It is whole but for disks: it was in flight, over this group, and each member of that holds its fragment, or its server has lost its disk since the group was
-- made.
pub record IsWhole (g : Setting) (n : Net) (segment : SegRef) : Type 0 where
  pub text : Segment
  pub flown : In text n.flown
  pub named : text.name ≡ segment.name
  pub grouped : text.group ≡ segment.group
  pub whole : (place : ℕ) → place < length (members_of g text) → Holds g n text place ⊎ IsLater g n text place

-- So it is, at each moment of every run, of the segment that an opening reads, over the group by which it is read, unless a Delete of it was sent.
abbrev pub WhatIsReadIsWhole : Type 0
WhatIsReadIsWhole =
    (g : Setting) (n : Net) → Moment g n → (s : ScanState) → n.owner ≡ Opening s → (b : Backward) (r : ReadingState) → s.stage ≡ Reads b (Some r)
    → (In r.target.seg.name n.dropped → ⊥) → IsWhole g n r.target.seg

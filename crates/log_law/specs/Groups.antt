-- What names a segment of a log names its group: the segment after it, and the end of a log that is served.
use Rattle.std.specs.Prelude.{◌≡◌}
use Rattle.client_log.specs.LogState.{LogState}
use Rattle.log_protocol.specs.Tables.{In}
use Rattle.log_scan.specs.Transition.{end_below, name_at}
use Rattle.log_tie.specs.Setting.{Setting}
use Rattle.segment_format.specs.declared.segment.Segment.{Segment}
use Rattle.log_law.specs.Laws.{Moment}
use Rattle.log_law.specs.Net.{Net}
use Rattle.log_law.specs.Net.Owner.{Serving}

-- Of all that was in flight in a log, the segment that another one names as the one before it is over the group that it names.
abbrev pub PriorsNameGroups : Type 0
PriorsNameGroups =
    (g : Setting) (n : Net) → Moment g n → (s t : Segment) → In s n.flown → In t n.flown → t.name ≡ name_at g.log (end_below s) → t.group ≡ s.prior.group

-- So is the one that the end of a log that is served names.
abbrev pub EndsNameGroups : Type 0
EndsNameGroups =
    (g : Setting) (n : Net) → Moment g n → (s : LogState) → n.owner ≡ Serving s → (t : Segment) → In t n.flown → t.name ≡ name_at g.log s.end
    → t.group ≡ s.end.group

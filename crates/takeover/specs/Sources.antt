-- Where a takeover reads: each part of the checkpoint, and each log from its reported end back to what the checkpoint covers.
use Rattle.std.specs.Prelude.{ℕ, ◌-◌, Bool, ◌&&◌, not, nat_lt, nat_le, List, [], ◌∷◌, ◌++◌, Option, Some, None, map, if◌then◌else◌}
use Rattle.std.specs.List.{flat_map, range_with_len}
use Rattle.xfs_base.specs.declared.news.SlotNews.{SlotNews}
use Rattle.xfs_base.specs.declared.segment.End.{End}
use Rattle.xfs_base.specs.declared.segment.SegRef.{SegRef}
use Rattle.xfs_base.specs.Limits.{block_logs}
use Rattle.xfs_base.specs.Segments.{names_none}
use Rattle.segment_format.specs.declared.segment.Segment.{Segment}
use Rattle.takeover.specs.declared.report.Report.{Report}
use Rattle.takeover.specs.declared.source.Source.{Source}
use Rattle.takeover.specs.Reports.{end_of, horizon_at}

-- a part alone: nothing before it is read
abbrev pub part_source : SegRef → Source
part_source part = record { seg = part; low = part.name.seq }

-- a log from this end back
abbrev pub log_source : ℕ → ℕ → End → Source
log_source log low end = record { seg = record { name = record { log = record { 0 = log }; seq = end.seq; pass = end.pass }; group = end.group }; low = low }

-- a log whose reported end the checkpoint does not cover
abbrev pub from_end : ℕ → ℕ → End → List Source
from_end log low end = if nat_le low end.seq then log_source log low end ∷ [] else []

abbrev pub log_sources : List ℕ → List Report → ℕ → List Source
log_sources horizon reports log = from_end log (horizon_at horizon log) (end_of reports log)

-- the parts in their order, then the logs that say where blocks lie
abbrev pub sources_of : SlotNews → List Report → List Source
sources_of news reports = map part_source news.parts ++ flat_map (log_sources news.horizon reports) (range_with_len 1 block_logs)

-- the segment before this one in its log
abbrev pub prior_of : Segment → SegRef
prior_of s = record { name = record { log = s.name.log; seq = s.name.seq - 1; pass = s.prior.pass }; group = s.prior.group }

-- whether the segment before this one is to be read too: there is one, and it is not below what is read
abbrev pub goes_back : Source → Segment → Bool
goes_back source s = nat_lt source.low s.name.seq && not (names_none s.prior)

-- what is left of a source once this segment of it is read
abbrev pub back_from : Source → Segment → Option Source
back_from source s = if goes_back source s then Some (record { seg = prior_of s; low = source.low }) else None

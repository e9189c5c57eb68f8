-- What of a client outlives a crash.
use Rattle.std.specs.Prelude.{ℕ, ◌+◌, nat_lt, if◌then◌else◌, List}
use Rattle.client_serving.specs.declared.lasting.Lasting.{Lasting}
use Rattle.node_base.specs.Beginning.{items_start, items_wait}
use Rattle.version_model.specs.declared.work.Work.{Work}
use Rattle.xfs_base.specs.declared.segment.LogId.{LogId}
use Rattle.xfs_base.specs.Limits.{u32_end}

-- what outlives a crash: it was started once, nothing was asked, and nothing is begun
abbrev pub lasting_start : ℕ → List Work → Lasting
lasting_start number works = record { number = number; inc = 1; questions = record { last = 0 }; items = items_start works }

-- the next incarnation, whose restart is not answered yet
abbrev pub live_on : Lasting → ℕ → Lasting
live_on l number = record l { inc = if nat_lt l.inc u32_end then l.inc + 1 else l.inc; items = items_wait l.items number }

-- the log that a client writes
abbrev pub log_of : Lasting → LogId
log_of l = record { 0 = l.number }

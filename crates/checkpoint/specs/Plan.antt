-- Which pages a checkpoint writes (the 1996 paper, "Recovery and Reconfiguration").
use Rattle.std.specs.Prelude.{ℕ, Bool, ◌==◌, ◌||◌, nat_lt, List, [], length, if◌then◌else◌}
use Rattle.xfs_base.specs.declared.segment.SegRef.{SegRef}
use Rattle.index_pages.specs.Pages.{PagesState, all_rows, changed_rows}
use Rattle.checkpoint.specs.declared.plan.Plan.{Plan}

-- after no parts, and after more than 64, all is written anew
abbrev pub writes_all : ℕ → Bool
writes_all parts = (parts == 0) || nat_lt 64 parts

-- the changed pages are written, and the parts of the checkpoint before are named again; or all pages
-- are written, and those parts aren't
abbrev pub plan_of : PagesState → List SegRef → Plan
plan_of s parts = if writes_all (length parts) then record { pages = all_rows s; parts = [] } else record { pages = changed_rows s; parts = parts }

use Rattle.std.proofs.Common.{◌≡◌, ◌++◌, drop, map}
use Rattle.index_pages.specs.Pages.{rows_on}
use Rattle.index_pages.proofs.pages.Pages.all_rows.Given as goal

-- the pages so far and those to come are all
abbrev pub invariant-loop-page : goal.invariant-loop-page
invariant-loop-page l = l.pages ++ map (rows_on l.self.rows) (drop l.page-index l.page-items) ≡ map (rows_on l.self.rows) l.page-items

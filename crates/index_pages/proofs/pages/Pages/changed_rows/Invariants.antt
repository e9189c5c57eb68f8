use Rattle.std.proofs.Common.{◌≡◌, ◌++◌, drop, filter, map}
use Rattle.index_pages.specs.declared.layout.Page.{Page}
use Rattle.index_pages.specs.Pages.{rows_on}
use Rattle.index_pages.proofs.pages.Pages.changed_rows.Given as goal

-- the pages so far and those to come are all
abbrev pub invariant-loop-page : goal.invariant-loop-page
invariant-loop-page l =
    l.pages ++ map (rows_on l.self.rows) (filter (λ (p : Page). p.changed) (drop l.page-index l.page-items)) ≡ map (rows_on l.self.rows)
    (filter (λ (p : Page). p.changed) l.page-items)

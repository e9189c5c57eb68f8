use Rattle.std.proofs.Common.{◌≡◌, ◌++◌, map, take, drop}
use Rattle.index_pages.specs.Pages.{clean_page}
use Rattle.index_pages.proofs.pages.Pages.clean.Given as goal

-- the pages so far are clean, and those to come are as they were
abbrev pub invariant-loop-page : goal.invariant-loop-page
invariant-loop-page l = l.page-items ≡ map clean_page (take l.page-index l.initial.page-items) ++ drop l.page-index l.initial.page-items

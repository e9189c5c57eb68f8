use Rattle.std.proofs.Common.{◌≡◌, ◌++◌, drop}
use Rattle.index_pages.specs.Pages.{changed_from}
use Rattle.index_pages.proofs.pages.Pages.changed.Given as goal

-- the numbers so far and those to come are all
abbrev pub invariant-loop-number : goal.invariant-loop-number
invariant-loop-number l = l.numbers ++ changed_from l.number (drop l.number l.page-items) ≡ changed_from 0 l.page-items

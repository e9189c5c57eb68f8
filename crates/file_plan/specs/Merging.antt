-- How entries are put among others in rising order of names, from the front on.
use Rattle.std.specs.Prelude.{◌≡◌, true, List, ◌∷◌, ◌++◌}
use Rattle.std.specs.FinMap.Entries.{is_sorted}
use Rattle.file_plan.specs.declared.node.Node.{Node}
use Rattle.file_plan.specs.Names.{Name, Row, name_cmp}
use Rattle.file_plan.specs.Plan.{insert_all}

-- The entries before a name were moved from the front of the others to those that are done, and that of the name is gone: whatever comes under the
-- name, and rising entries after it, stand where they do if all are put among the others as they were.
abbrev pub Passes : List Row → List Row → Name → List Row → List Row → Type 0
Passes done others name now rest = (node : Node) (more : List Row) → is_sorted name_cmp ((name, node) ∷ more) ≡ true
    → done ++ insert_all others ((name, node) ∷ more) ≡ now ++ (name, node) ∷ insert_all rest more

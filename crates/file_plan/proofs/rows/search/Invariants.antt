use Rattle.std.proofs.Common.{◌≡◌}
use Rattle.std.specs.BTreeMap.{insert_entry}
use Rattle.file_plan.specs.declared.node.Node.{Node}
use Rattle.file_plan.specs.Names.{name_cmp}
use Rattle.file_plan.proofs.RowPlaces.{put_from}
use Rattle.file_plan.proofs.rows.search.Given as goal

abbrev pub invariant-loop-i : goal.invariant-loop-i
invariant-loop-i l = (node : Node) → insert_entry name_cmp l.rows l.name node ≡ put_from l.rows l.name node l.i

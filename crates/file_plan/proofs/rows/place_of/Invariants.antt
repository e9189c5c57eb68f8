use Rattle.std.proofs.Common.{◌≡◌}
use Rattle.std.specs.Map.{remove_entry}
use Rattle.std.specs.BTreeMap.{is_at}
use Rattle.file_plan.specs.Names.{name_cmp}
use Rattle.file_plan.proofs.RowPlaces.{cut_from}
use Rattle.file_plan.proofs.rows.place_of.Given as goal

abbrev pub invariant-loop-i : goal.invariant-loop-i
invariant-loop-i l = remove_entry (is_at (name_cmp l.name)) l.rows ≡ cut_from l.rows l.name l.i

use Rattle.std.proofs.Common.{◌≡◌, drop, take}
use Rattle.std.specs.List.{list_all}
use Rattle.file_plan.specs.Names.{is_good}
use Rattle.file_plan.proofs.name.names_of.Given as goal

abbrev pub invariant-loop-text : goal.invariant-loop-text
invariant-loop-text l = (l.names ≡ take l.text-index l.text-items) × (list_all is_good (drop l.text-index l.text-items) ≡ list_all is_good l.text-items)

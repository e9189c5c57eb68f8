use Rattle.std.proofs.Common.{◌≡◌, drop}
use Rattle.group_rebuild.specs.Transition.{remove_names}
use Rattle.group_rebuild.proofs.rebuild.remove_names.Given as goal

-- once those to come are taken out, all are
abbrev pub invariant-loop-name : goal.invariant-loop-name
invariant-loop-name l = remove_names (drop l.name-index l.names) l.listed.entries ≡ remove_names l.names l.initial.listed.entries

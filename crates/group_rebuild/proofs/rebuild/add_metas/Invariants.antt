use Rattle.std.proofs.Common.{◌≡◌, drop}
use Rattle.group_rebuild.specs.Transition.{listed_with}
use Rattle.group_rebuild.proofs.rebuild.add_metas.Given as goal

-- once those to come are put in, all are
abbrev pub invariant-loop-meta : goal.invariant-loop-meta
invariant-loop-meta l = listed_with (drop l.meta-index l.metas) l.listed.entries ≡ listed_with l.metas l.initial.listed.entries

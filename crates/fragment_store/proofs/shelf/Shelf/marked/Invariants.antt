use Rattle.std.proofs.Common.{◌≡◌}
use Rattle.std.specs.Prelude.{fold}
use Rattle.std.specs.BTreeSet.{insert_key}
use Rattle.xfs_base.specs.Segments.{seg_cmp}
use Rattle.fragment_store.specs.Calls.{in_order}
use Rattle.fragment_store.proofs.shelf.Shelf.marked.Given as goal

-- once the marks to come are put in, all marks stand in order
abbrev pub invariant-loop-name : goal.invariant-loop-name
invariant-loop-name l = fold (insert_key seg_cmp) l.names.keys l.name-iterator ≡ in_order l.self.marks

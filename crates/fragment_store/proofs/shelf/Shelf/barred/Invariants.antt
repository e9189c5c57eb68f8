use Rattle.std.proofs.Common.{◌≡◌, ◌++◌, map}
use Rattle.std.specs.Prelude.{fold}
use Rattle.std.specs.BTreeSet.{insert_key}
use Rattle.xfs_base.specs.Segments.{seg_cmp}
use Rattle.fragment_store.specs.Calls.{in_order}
use Rattle.fragment_store.proofs.shelf.Shelf.barred.Given as goal

-- once the names to come are put in too, all names stand in order
abbrev pub invariant-loop-fragment : goal.invariant-loop-fragment
invariant-loop-fragment l =
    fold (insert_key seg_cmp) l.names.keys (map (λ f. f.meta.name) l.fragment-iterator) ≡ in_order (l.self.marks ++ map (λ f. f.meta.name) l.self.held)

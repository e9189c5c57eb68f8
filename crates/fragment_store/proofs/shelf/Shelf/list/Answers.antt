use Rattle.std.proofs.Common.{◌≡◌, map, sym, subst, arith, rules}
use Rattle.std.specs.List.Sorted.{IsStrictlySortedBy}
use Rattle.std.proofs.lemmas.Grind.{common_steps}
use Rattle.xfs_base.specs.Segments.{seg_cmp}
use Rattle.fragment_store.specs.Calls.{on_list}
use Rattle.fragment_store.proofs.Entries.{sorted_names, map-name-meta}
use Rattle.fragment_store.proofs.shelf.Shelf.list.Goals as goal

pub returns-clause-sorted : goal.returns-clause-sorted
returns-clause-sorted c =
    let now = c.args.self.now in
    let exact : c.loop-fragment.metas ≡ on_list now = first_of (search rules, grind (arith, common_steps)) in
    let names : IsStrictlySortedBy seg_cmp (map (λ f. f.meta.name) now.held) =
    subst (λ s. IsStrictlySortedBy seg_cmp (map (λ f. f.meta.name) s.held)) c.self.view_is
    (sorted_names c.self.inside.held.entries c.self.inside.marks.keys c.self.invariant)
    in
    subst (λ metas. IsStrictlySortedBy seg_cmp (map (λ m. m.name) metas)) (sym exact) (subst (IsStrictlySortedBy seg_cmp) (sym (map-name-meta now.held)) names)

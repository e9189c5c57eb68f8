use Rattle.std.proofs.Common.{◌≡◌, true, List, None, filter, sym, ap, subst, ◌∙◌}
use Rattle.std.specs.Prelude.{not}
use Rattle.std.specs.Map.{values_of}
use Rattle.xfs_base.specs.declared.fragment.Fragment.{Fragment}
use Rattle.xfs_base.specs.declared.segment.SegName.{SegName}
use Rattle.fragment_store.specs.ShelfState.{ShelfState, IsShelf, same_name, held_at, is_marked}
use Rattle.fragment_store.specs.Calls.{on_delete}
use Rattle.fragment_store.proofs.Entries.{held-without, IsShelf-without}
use Rattle.fragment_store.proofs.Histories.{deletion_away}
use Rattle.fragment_store.proofs.shelf.Shelf.delete.Goals as goal

pub invariant_of-self-2 : goal.invariant_of-self-2
invariant_of-self-2 c =
    let shelf : ShelfState =
    record { generation = c.self.inside.generation; held = values_of c.self.inside.held.entries; fences = c.self.inside.fences.entries; marks = c.self.inside.marks.keys } in
    let held : List Fragment = (on_delete shelf c.args.name).held in
    let away : (other : SegName) → is_marked c.insert.new.self.keys other ≡ true → held_at held other ≡ None =
    λ other m. deletion_away shelf c.args.name c.self.invariant.away other (ap (λ marks. is_marked marks other) (sym c.in_ok-insert.ensures.keys) ∙ m) in
    subst (λ es. IsShelf es c.insert.new.self.keys) (sym c.remove.ensures.entries)
    (IsShelf-without c.self.inside.held.entries c.self.inside.marks.keys c.self.invariant c.args.name c.insert.new.self.keys c.in_ok-insert.ensures.ordered away)

pub returns-clause-ok : goal.returns-clause-ok
returns-clause-ok c =
    let shelf : List Fragment → List SegName → ShelfState =
    λ held marks. record { generation = c.self.inside.generation; held = held; fences = c.self.inside.fences.entries; marks = marks } in
    let held : values_of c.remove.new.self.entries ≡ filter (λ f. not (same_name c.args.name f.meta.name)) (values_of c.self.inside.held.entries) =
    ap values_of c.remove.ensures.entries ∙ held-without c.self.inside.held.entries c.self.inside.marks.keys c.self.invariant c.args.name
    in
    ap (λ h. shelf h c.insert.new.self.keys) held
    ∙ ap (λ m. shelf (filter (λ f. not (same_name c.args.name f.meta.name)) (values_of c.self.inside.held.entries)) m) c.in_ok-insert.ensures.keys
    ∙ ap (λ s. on_delete s c.args.name) c.self.view_is

use Rattle.std.proofs.Common.{◌≡◌, sym, subst, ◌∙◌}
use Rattle.std.specs.Map.{values_of}
use Rattle.fragment_store.specs.ShelfState.{ShelfState}
use Rattle.fragment_store.specs.Calls.{on_delete}
use Rattle.fragment_store.proofs.Again.{deleted_again}
use Rattle.fragment_store.proofs.shelf.Shelf.is_marked.Goals as goal

pub returns-clause-again : goal.returns-clause-again
returns-clause-again c = λ h.
    let shelf : ShelfState =
    record { generation = c.self.inside.generation; held = values_of c.self.inside.held.entries; fences = c.self.inside.fences.entries; marks = c.self.inside.marks.keys } in
    subst (λ s. on_delete s c.args.name ≡ s) c.self.view_is (deleted_again shelf c.args.name c.self.invariant.marked c.self.invariant.away (sym c.contains.ensures ∙ h))

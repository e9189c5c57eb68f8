use Rattle.std.proofs.Common.{sym, ap, ◌∙◌}
use Rattle.fragment_store.specs.ShelfState.{held_at}
use Rattle.fragment_store.proofs.Entries.{lookup-named}
use Rattle.fragment_store.proofs.shelf.Shelf.fetch.Goals as goal

pub returns-in-Some : goal.returns-in-Some
returns-in-Some c =
    ap (λ s. held_at s.held c.args.name) (sym c.self.view_is) ∙ sym (lookup-named c.self.inside.held.entries c.args.name c.self.invariant.named)
    ∙ sym c.in-Some.ensures.value

pub returns-in-None : goal.returns-in-None
returns-in-None c =
    ap (λ s. held_at s.held c.args.name) (sym c.self.view_is) ∙ sym (lookup-named c.self.inside.held.entries c.args.name c.self.invariant.named)
    ∙ sym c.in-None.ensures.value

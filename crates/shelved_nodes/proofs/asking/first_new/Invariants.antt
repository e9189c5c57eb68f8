use Rattle.std.proofs.Common.{◌≡◌, drop, not}
use Rattle.std.specs.Prelude.{find}
use Rattle.fragment_store.specs.ShelfState.{is_held}
use Rattle.shelved_nodes.proofs.asking.first_new.Given as goal

-- the first is among those that are to come
abbrev pub invariant-loop-meta : goal.invariant-loop-meta
invariant-loop-meta l =
    find (λ m. not (is_held l.old m.name)) (drop l.meta-index l.metas) ≡ find (λ m. not (is_held l.old m.name)) l.metas

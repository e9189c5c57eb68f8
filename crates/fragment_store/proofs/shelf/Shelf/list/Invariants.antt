use Rattle.std.proofs.Common.{◌≡◌, ◌++◌, map}
use Rattle.fragment_store.proofs.shelf.Shelf.list.Given as goal

-- what is said of the fragments so far, and of those to come, is all
abbrev pub invariant-loop-fragment : goal.invariant-loop-fragment
invariant-loop-fragment l = l.metas ++ map (λ f. f.meta) l.fragment-iterator ≡ map (λ f. f.meta) l.self.held

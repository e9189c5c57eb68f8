use Rattle.std.proofs.Common.{◌≡◌, ◌++◌}
use Rattle.fragment_store.proofs.shelf.listed.Given as goal

-- the names so far and those to come are all
abbrev pub invariant-loop-name : goal.invariant-loop-name
invariant-loop-name l = l.listed ++ l.name-iterator ≡ l.names.keys

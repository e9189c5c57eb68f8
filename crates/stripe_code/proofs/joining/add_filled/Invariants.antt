use Rattle.std.proofs.Common.{◌≡◌, ◌++◌, drop}
use Rattle.std.specs.List.{concat}
use Rattle.stripe_code.specs.Joined.{filled}
use Rattle.stripe_code.proofs.joining.add_filled.Given as goal

abbrev pub invariant-loop-fragment : goal.invariant-loop-fragment
invariant-loop-fragment l =
    l.text.items ++ concat (filled (drop l.fragment-index l.known) l.rest) ≡ l.initial.text.items ++ concat (filled l.known l.initial.rest)

use Rattle.std.proofs.Common.{◌≡◌, ◌++◌, drop}
use Rattle.stripe_cleaner.specs.Transition.{lists}
use Rattle.stripe_cleaner.proofs.listing.add_lists.Given as goal

-- the questions so far and those to come are all
abbrev pub invariant-loop-server : goal.invariant-loop-server
invariant-loop-server l = l.outs ++ lists (drop l.server-index l.servers) ≡ l.initial.outs ++ lists l.servers

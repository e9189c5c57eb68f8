use Rattle.std.proofs.Common.{◌≡◌, ◌++◌, drop}
use Rattle.takeover.specs.Transition.{fetches}
use Rattle.takeover.proofs.source.add_fetches.Given as goal

-- the questions so far and those to come are all
abbrev pub invariant-loop-server : goal.invariant-loop-server
invariant-loop-server l = l.outs ++ fetches l.name l.ask (drop l.server-index l.servers) ≡ l.initial.outs ++ fetches l.name l.ask l.servers

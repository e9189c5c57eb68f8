use Rattle.std.proofs.Common.{◌≡◌, ◌++◌, drop, map}
use Rattle.log_scan.specs.declared.output.Out.TheVariants.{Fetch}
use Rattle.log_scan.proofs.backward.add_fetches.Given as goal

-- the questions so far and those to come are all
abbrev pub invariant-loop-server : goal.invariant-loop-server
invariant-loop-server l =
    l.outs ++ map (λ server. Fetch server l.name l.ask) (drop l.server-index l.servers) ≡ l.initial.outs ++ map (λ server. Fetch server l.name l.ask) l.servers

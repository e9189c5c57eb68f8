use Rattle.std.proofs.Common.{◌≡◌, ◌++◌, drop, map}
use Rattle.log_owner.specs.Sending.{fetch}
use Rattle.cleaner_job.proofs.hand.fetch_all.Given as goal

-- the servers that were asked and those to come are all
abbrev pub invariant-loop-server : goal.invariant-loop-server
invariant-loop-server l =
    l.effects ++ map (fetch l.name l.ask) (drop l.server-index l.server-items) ≡ l.initial.effects ++ map (fetch l.name l.ask) l.server-items

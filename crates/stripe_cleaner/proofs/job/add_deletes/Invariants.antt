use Rattle.std.proofs.Common.{◌≡◌, ◌++◌, drop}
use Rattle.stripe_cleaner.specs.Job.{deletes}
use Rattle.stripe_cleaner.proofs.job.add_deletes.Given as goal

-- what is said so far and what is to come are all
abbrev pub invariant-loop-server : goal.invariant-loop-server
invariant-loop-server l = l.outs ++ deletes l.name (drop l.server-index l.servers) ≡ l.initial.outs ++ deletes l.name l.servers

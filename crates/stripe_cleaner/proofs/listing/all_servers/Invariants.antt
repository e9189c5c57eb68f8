use Rattle.std.proofs.Common.{◌≡◌, ◌+◌, ◌-◌, ◌++◌, map}
use Rattle.std.specs.List.{range_with_len}
use Rattle.stripe_cleaner.specs.Listing.{all_servers}
use Rattle.stripe_cleaner.proofs.listing.all_servers.Given as goal

-- the servers so far and those to come are all
abbrev pub invariant-loop-before : goal.invariant-loop-before
invariant-loop-before l = l.all ++ map (λ before. before + 1) (range_with_len l.before (l.servers - l.before)) ≡ all_servers l.servers

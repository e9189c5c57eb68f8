use Rattle.std.proofs.Common.{◌≡◌, drop}
use Rattle.std.specs.Prelude.{◌==◌}
use Rattle.std.specs.List.{list_any}
use Rattle.stripe_code.proofs.round.is_one_of.Given as goal

-- the server is one of the rest exactly where it is one of all
abbrev pub invariant-loop-asked : goal.invariant-loop-asked
invariant-loop-asked l = list_any (λ s. s == l.server) (drop l.asked-index l.servers) ≡ list_any (λ s. s == l.server) l.servers

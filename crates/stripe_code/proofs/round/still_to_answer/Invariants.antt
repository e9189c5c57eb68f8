use Rattle.std.proofs.Common.{◌≡◌, ◌++◌, drop, not}
use Rattle.std.specs.Prelude.{filter}
use Rattle.stripe_code.specs.Round.{has_answered}
use Rattle.stripe_code.proofs.round.still_to_answer.Given as goal

abbrev pub invariant-loop-server : goal.invariant-loop-server
invariant-loop-server l =
    l.left ++ filter (λ server. not (has_answered l.answers server)) (drop l.server-index l.servers) ≡ filter
    (λ server. not (has_answered l.answers server)) l.servers

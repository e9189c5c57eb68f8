use Rattle.std.proofs.Common.{◌≡◌, drop}
use Rattle.stripe_code.specs.Round.{all_answered}
use Rattle.stripe_code.proofs.round.all_answered.Given as goal

-- the rest have answered exactly where all have
abbrev pub invariant-loop-server : goal.invariant-loop-server
invariant-loop-server l = all_answered l.answers (drop l.server-index l.servers) ≡ all_answered l.answers l.servers

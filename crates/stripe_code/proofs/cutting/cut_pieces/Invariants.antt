use Rattle.std.proofs.Common.{◌≡◌, ◌-◌, ◌++◌}
use Rattle.stripe_code.specs.Stripe.{cut_pieces}
use Rattle.stripe_code.proofs.cutting.cut_pieces.Given as goal

abbrev pub invariant-loop : goal.invariant-loop
invariant-loop l = l.cut ++ cut_pieces (l.count - l.counter) l.part l.rest ≡ cut_pieces l.count l.part l.fn.text

use Rattle.std.proofs.Common.{◌≡◌, ℕ, ◌-◌, length, ◌∙◌, sym, ap, subst}
use Rattle.stripe_code.specs.Stripe.{part_len}
use Rattle.stripe_code.specs.Joined.{HasLengths}
use Rattle.stripe_code.proofs.joining.join_enough.Goals as goal

pub recovered-requires-clause-lengths : goal.recovered-requires-clause-lengths
recovered-requires-clause-lengths c =
    let ps = c.args.parts.now in
    let part = part_len c.args.len (length ps - c.args.parity) in
    let same : part ≡ c.part_len-part.result = ap (λ (k : ℕ). part_len c.args.len (length ps - k)) (sym c.from.ensures) ∙ sym c.part_len-part.ensures in
    subst (λ (n : ℕ). HasLengths n ps) same c.requires.lengths

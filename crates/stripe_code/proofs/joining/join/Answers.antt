use Rattle.std.proofs.Common.{◌≡◌, ℕ, None, ◌∙◌, sym, ap}
use Rattle.stripe_code.specs.Joined.{too_many, missing_from, joined}
use Rattle.stripe_code.proofs.Given.{gives_back}
use Rattle.stripe_code.proofs.Recovery.{few_missing}
use Rattle.stripe_code.proofs.joining.join.Goals as goal

pub returns-clause-gives_back : goal.returns-clause-gives_back
returns-clause-gives_back c text bytes long are =
    let parts = c.args.parts.now in
    let parity = c.args.parity in
    let none : too_many parity (missing_from 0 parts) ≡ None =
    ap (too_many parity) (sym (c.as_slice.ensures ∙ c.in_ok-gone.ensures)) ∙ sym c.too_many.ensures ∙ c.in-None.is in
    c.in_ok-found-in-None.ensures ∙ ap (λ (n : ℕ). joined parts parity n) (sym long)
    ∙ gives_back parts text bytes parity c.requires.size are (few_missing parity c.requires.size.some c.requires.size.few (missing_from 0 parts) none)

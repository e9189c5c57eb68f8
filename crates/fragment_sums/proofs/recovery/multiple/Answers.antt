use Rattle.std.proofs.Common.{ℕ, List, ◌∙◌, ap}
use Rattle.parity_kernel.specs.Bytewise.{xor_of, times}
use Rattle.fragment_sums.proofs.Xor.{onto_zeros, length-times}
use Rattle.fragment_sums.proofs.recovery.multiple.Goals as goal

pub returns-clause-times : goal.returns-clause-times
returns-clause-times c =
    let products = times c.args.by c.args.of.now in
    c.added.ensures.added ∙ ap (λ (z : List ℕ). xor_of z products) c.in_ok-start.ensures.zeros
    ∙ onto_zeros c.args.part products (length-times c.args.by c.args.of.now ∙ c.requires)

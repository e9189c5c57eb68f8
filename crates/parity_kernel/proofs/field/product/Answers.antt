use Rattle.std.proofs.Common.{◌≡◌, ℕ, refl, ◌∙◌, ap, ap₂, arith}
use Rattle.std.specs.Int.Bits.{bit_xor}
use Rattle.parity_kernel.specs.Field.{doubled, product, product_of}
use Rattle.parity_kernel.proofs.Powers.{doubled_times, turn_set, turn_clear, turn_doubled}
use Rattle.parity_kernel.proofs.field.product.Goals as goal
use Rattle.parity_kernel.proofs.field.product.Goals.{then-by-bit-eq1, else-by-bit-eq1}

pub loop-bit-init : goal.loop-bit-init
unfolding product_of doubled_times
loop-bit-init c = record { sum = refl; power = refl }

pub loop-bit-preserved : goal.loop-bit-preserved
loop-bit-preserved c =
    let n = c.loop-bit.bit in
    let at = c.loop-bit.invariant in
    record {
      sum = elim c.if-by-bit-eq1.branch [
        | then-by-bit-eq1 w ↦ w.sum-is ∙ ap₂ bit_xor at.sum at.power ∙ turn_set n c.args.by c.args.of w.if-by-bit-eq1.true
        | else-by-bit-eq1 w ↦ w.sum-is ∙ at.sum ∙ turn_clear n c.args.by c.args.of w.if-by-bit-eq1.false
      ];
      power = c.doubled-power.ensures ∙ ap doubled at.power ∙ turn_doubled n c.args.of;
    }

pub returns : goal.returns
unfolding product
returns c =
    let last : c.loop-bit.bit ≡ 8 = omega arith in
    c.loop-bit.invariant.sum ∙ ap (λ (n : ℕ). product_of n c.args.by c.args.of) last

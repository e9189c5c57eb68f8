use Rattle.std.proofs.Common.{◌≡◌, ℕ, map, subst, ◌∙◌, ap, ap₂, arith}
use Rattle.std.specs.Prelude.{replicate}
use Rattle.std.specs.Int.Bits.{bit_xor}
use lib.Lanes.{zip2}
use Rattle.parity_kernel.specs.Field.{doubled, product, product_of}
use Rattle.parity_kernel.proofs.Powers.{none_yet, undoubled, turn_set_each, turn_clear_each, turn_doubled_each, whole_each}
use Rattle.parity_kernel.proofs.lanes.product_lanes.Goals as goal
use Rattle.parity_kernel.proofs.lanes.product_lanes.Goals.{then-left-eq1, else-left-eq1}

pub loop-bit-init : goal.loop-bit-init
loop-bit-init c = record {
  sum = subst (λ (n : ℕ). replicate n 0 ≡ map (product_of 0 c.args.by) c.args.of) c.fits-of.0 (none_yet c.args.by c.args.of);
  power = undoubled c.args.of;
}

pub loop-bit-preserved : goal.loop-bit-preserved
loop-bit-preserved c =
    let n = c.loop-bit.bit in
    let at = c.loop-bit.invariant in
    record {
      sum = elim c.if-left-eq1.branch [
        | then-left-eq1 w ↦ w.sum-is ∙ ap₂ (zip2 bit_xor) at.sum at.power ∙ turn_set_each n c.args.by c.args.of w.if-left-eq1.true
        | else-left-eq1 w ↦ w.sum-is ∙ at.sum ∙ turn_clear_each n c.args.by c.args.of w.if-left-eq1.false
      ];
      power = c.doubled_lanes-power.ensures ∙ ap (map doubled) at.power ∙ turn_doubled_each n c.args.of;
    }

pub returns-then-left-eq0 : goal.returns-then-left-eq0
returns-then-left-eq0 c = c.loop-bit.invariant.sum ∙ whole_each c.loop-bit.bit c.args.by c.args.of (omega arith) c.if-left-eq0.true

pub returns : goal.returns
unfolding product
returns c =
    let last : c.loop-bit.bit ≡ 8 = omega arith in
    c.loop-bit.invariant.sum ∙ ap (λ (n : ℕ). map (product_of n c.args.by) c.args.of) last

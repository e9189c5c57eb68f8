use Rattle.std.proofs.Common.{◌≡◌}
use Rattle.parity_kernel.specs.Field.{product_of}
use Rattle.parity_kernel.proofs.Powers.{doubled_times}
use Rattle.parity_kernel.proofs.field.product.Given as goal

abbrev pub invariant-loop-bit : goal.invariant-loop-bit
invariant-loop-bit l = record {
  sum : l.sum ≡ product_of l.bit l.fn.by l.fn.of;
  power : l.power ≡ doubled_times l.bit l.fn.of;
}

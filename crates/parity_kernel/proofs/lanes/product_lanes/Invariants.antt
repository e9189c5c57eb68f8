use Rattle.std.proofs.Common.{◌≡◌, map}
use Rattle.parity_kernel.specs.Field.{product_of}
use Rattle.parity_kernel.proofs.Powers.{doubled_times}
use Rattle.parity_kernel.proofs.lanes.product_lanes.Given as goal

abbrev pub invariant-loop-bit : goal.invariant-loop-bit
invariant-loop-bit l = record {
  sum : l.sum ≡ map (product_of l.bit l.fn.by) l.fn.of;
  power : l.power ≡ map (doubled_times l.bit) l.fn.of;
}

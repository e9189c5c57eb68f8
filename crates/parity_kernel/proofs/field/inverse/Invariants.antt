use Rattle.std.proofs.Common.{◌≡◌, ◌-◌}
use Rattle.parity_kernel.specs.Field.{times_squares}
use Rattle.parity_kernel.proofs.field.inverse.Given as goal

abbrev pub invariant-loop : goal.invariant-loop
invariant-loop l = times_squares (7 - l.counter) l.square l.so_far ≡ times_squares 7 l.by 1

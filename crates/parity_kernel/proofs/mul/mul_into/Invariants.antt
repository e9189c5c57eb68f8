use Rattle.std.proofs.Common.{◌≡◌, ◌≤◌, ◌-◌, ◌++◌, length, take, drop}
use Rattle.parity_kernel.specs.Bytewise.{xor_of, times}
use Rattle.parity_kernel.proofs.mul.mul_into.Given as goal

abbrev pub invariant-loop-to : goal.invariant-loop-to
invariant-loop-to l = record {
  within : l.done ≤ length l.to;
  folded : take l.done l.to ++ xor_of (drop l.done l.to) (times l.by (drop l.done l.from)) ≡ xor_of l.initial.to (times l.by l.from);
}

abbrev pub decreases-loop-to : goal.decreases-loop-to
decreases-loop-to l = length l.to - l.done

use Rattle.std.proofs.Common.{◌≡◌, ◌++◌, take, drop}
use Rattle.parity_kernel.specs.Bytewise.{xor_of}
use Rattle.parity_kernel.proofs.xor.xor_bytes.Given as goal

abbrev pub invariant-loop-place : goal.invariant-loop-place
invariant-loop-place l =
    take l.place l.to ++ xor_of (drop l.place l.to) (drop l.place l.from) ≡ take l.fn.at l.initial.to
    ++ xor_of (drop l.fn.at l.initial.to) (drop l.fn.at l.from)

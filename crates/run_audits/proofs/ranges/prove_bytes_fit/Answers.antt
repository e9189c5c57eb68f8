-- An element of a slice of bytes is a byte, by its type.
use Rattle.std.proofs.Common.{arith}
use Rattle.run_audits.proofs.Bytes.{all_bytes}
use Rattle.run_audits.proofs.ranges.prove_bytes_fit.Goals as goal

pub returns : goal.returns
returns c = all_bytes c.args.bytes.now (λ i. omega (arith, c.type_inv.bytes i))

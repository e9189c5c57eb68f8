use Rattle.parity_kernel.proofs.FieldLaws.{linear, additive, undone}
use Rattle.parity_kernel.proofs.laws.bytes_are_a_field.Goals as goal

pub returns : goal.returns
returns c = record { linear = linear; additive = additive; inverses = undone }

use Rattle.log_protocol.proofs.NamesAsNumbers.{numbers_name, codes_decode}
use Rattle.log_protocol.proofs.numbers_name.Goals as goal

pub returns : goal.returns
returns c = record { apart = numbers_name; decode = codes_decode }

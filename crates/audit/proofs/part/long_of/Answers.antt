use Rattle.std.proofs.Common.{sym, arith}
use Rattle.audit.proofs.Longs.{long_none, long_decimal}
use Rattle.audit.proofs.part.long_of.Goals as goal

pub returns-in-None : goal.returns-in-None
returns-in-None c = sym (long_none c.args.word.now c.in-None.ensures)

pub returns-in-Some : goal.returns-in-Some
returns-in-Some c = rw c.in-Some.ensures (sym (long_decimal c.in-Some.number (omega arith)))

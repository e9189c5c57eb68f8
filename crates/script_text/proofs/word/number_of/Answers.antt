use Rattle.std.proofs.Common.{sym, arith}
use Rattle.script_text.proofs.WordLemmas.{wide, number_none, number_large, number_decimal}
use Rattle.script_text.proofs.word.number_of.Goals as goal

pub returns-in-None : goal.returns-in-None
returns-in-None c = sym (number_none c.args.word.now (λ n h. c.in-None.ensures n (wide n h)))

pub returns-then-number : goal.returns-then-number
returns-then-number c = rw c.in-Some.ensures (sym (number_decimal c.in-Some.number (omega (arith, c.if-number.true))))

pub returns-else-number : goal.returns-else-number
returns-else-number c =
    sym (number_large c.args.word.now c.in-Some.number (omega arith) c.in-Some.ensures (λ h. omega (arith, h, c.if-number.false)))

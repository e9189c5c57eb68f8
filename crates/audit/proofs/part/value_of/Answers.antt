use Rattle.std.proofs.Common.{ap, ◌∙◌, Err, arith}
use Rattle.std.proofs.lemmas.Bool.Decides.{nat_tests}
use Rattle.audit.proofs.part.value_of.Goals as goal

pub returns-in-Err-BadLength : goal.returns-in-Err-BadLength
returns-in-Err-BadLength c =
    let bad = (c.of.ensures.bad_length c.in-Err-BadLength.field-0-0).0 (c.in-Err-BadLength.is ∙ ap Err c.in-Err-BadLength.field-0-is) in
    absurd (grind
    (arith, nat_tests, bad, c.as_bytes.ensures, c.is_empty.ensures, c.if-is_empty.ensures, c.if-is_empty.false, c.len.ensures, c.if-len-gt-MAX_VALUE.false))

use Rattle.std.proofs.Common.{Err, ap, ◌∙◌}
use Rattle.file_plan.proofs.Parsing.{bad_value}
use Rattle.file_plan.proofs.bytes.value_of.Goals as goal

pub unreachable-requires : goal.unreachable-requires
unreachable-requires c =
    bad_value c.args.bytes.now c.in-Err-BadLength.field-0-0 c.requires c.if-is_empty.ensures
    ((c.of.ensures.bad_length c.in-Err-BadLength.field-0-0).0 (c.in-Err-BadLength.is ∙ ap Err c.in-Err-BadLength.field-0-is))

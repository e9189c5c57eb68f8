use Rattle.std.proofs.Common.{arith, ap, sym, ◌∙◌, take, ◌&&◌, get_or, List, ℕ}
use Rattle.file_plan.specs.Names.{is_good}
use Rattle.file_plan.specs.Format.{is_kind_byte, name_length}
use Rattle.file_plan.proofs.Parsing.{has_row_long, has_row_short}
use Rattle.file_plan.proofs.bucket.has_row.Goals as goal

pub returns-then-bytes-lt6 : goal.returns-then-bytes-lt6
returns-then-bytes-lt6 c = sym (has_row_short c.args.bytes.now (omega arith))

pub returns-then-length-text : goal.returns-then-length-text
returns-then-length-text c = sym (has_row_short c.args.bytes.now (omega (arith, c.split_at.ensures.back_len)))

pub returns : goal.returns
returns c =
    c.is_entry.ensures
    ∙ ap (λ (n : List ℕ). is_kind_byte (get_or c.args.bytes.now 0 0) && is_good n)
    (c.split_at-2.ensures.front ∙ ap (λ (bs : List ℕ). take (name_length c.args.bytes.now) bs) c.split_at.ensures.back)
    ∙ sym (has_row_long c.args.bytes.now (omega (arith, c.split_at.ensures.back_len)))

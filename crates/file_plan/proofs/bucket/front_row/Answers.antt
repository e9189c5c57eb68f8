use Rattle.std.proofs.Common.{arith, ap, ◌∙◌, take, List, ℕ}
use Rattle.file_plan.specs.Names.{is_good}
use Rattle.file_plan.specs.Format.{name_length}
use Rattle.file_plan.proofs.Parsing.{row_length, row_name}
use Rattle.file_plan.proofs.bucket.front_row.Goals as goal

pub bounds-bytes-5 : goal.bounds-bytes-5
bounds-bytes-5 c = let h = row_length c.args.bytes.now c.requires in omega (arith, h)

pub split_at-requires : goal.split_at-requires
split_at-requires c = let h = row_length c.args.bytes.now c.requires in omega (arith, h)

pub split_at-requires-2 : goal.split_at-requires-2
split_at-requires-2 c = let h = row_length c.args.bytes.now c.requires in omega (arith, h, c.split_at.ensures.back_len)

pub of_good-requires : goal.of_good-requires
of_good-requires c =
    ap (λ (n : List ℕ). is_good n) (c.split_at-2.ensures.front ∙ ap (λ (bs : List ℕ). take (name_length c.args.bytes.now) bs) c.split_at.ensures.back)
    ∙ row_name c.args.bytes.now c.requires

use Rattle.std.proofs.Common.{arith}
use Rattle.file_plan.proofs.Parsing.{row_length}
use Rattle.file_plan.proofs.bucket.rest_of_rows.Goals as goal

pub bounds-bytes-5 : goal.bounds-bytes-5
bounds-bytes-5 c = let h = row_length c.args.bytes.now c.requires in omega (arith, h)

pub split_at-requires : goal.split_at-requires
split_at-requires c = let h = row_length c.args.bytes.now c.requires in omega (arith, h)

pub split_at-requires-2 : goal.split_at-requires-2
split_at-requires-2 c = let h = row_length c.args.bytes.now c.requires in omega (arith, h, c.split_at.ensures.back_len)

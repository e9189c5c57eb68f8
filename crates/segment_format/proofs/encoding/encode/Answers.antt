use Rattle.std.proofs.Common.{arith}
use Rattle.segment_format.proofs.Writes.{kinds_count}
use Rattle.segment_format.proofs.encoding.encode.Goals as goal

pub put_head-requires : goal.put_head-requires
put_head-requires c = omega (arith, kinds_count c.args.segment.now.items, c.requires.others, c.requires.deltas)

use Rattle.std.proofs.Common.{arith}
use Rattle.script_text.proofs.Loops.{repeat_kept, short_more}
use Rattle.script_text.proofs.text.repeat_within.Goals as goal

pub loop-preserved : goal.loop-preserved
loop-preserved c = record {
  same = repeat_kept c.loop.text c.as_bytes-piece.result.now c.add.new.self _ _ c.loop.counter c.loop-test.true c.loop.invariant.same c.in_ok-add.ensures.ok;
  short = short_more c.loop.text c.as_bytes-piece.result.now c.add.new.self _ c.in_ok-add.ensures.ok (omega arith);
}

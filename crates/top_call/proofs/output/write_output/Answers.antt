use Rattle.std.proofs.Common.{rules}
use Rattle.top_call.proofs.Loops.{appends_on}
use Rattle.top_call.proofs.output.write_output.Goals as goal

pub loop-done-preserved : goal.loop-done-preserved
loop-done-preserved g c =
    let i = c.loop-done.invariant in
    record {
      bound = search rules;
      wrote = appends_on _ _ _ c.args.text.now _ _ i.wrote (rw c.split_at.ensures.back at c.in_ok-taken.ensures.wrote);
      later = search rules;
    }

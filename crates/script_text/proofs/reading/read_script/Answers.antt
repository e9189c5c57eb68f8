use Rattle.std.proofs.Common.{length}
use Rattle.script_text.specs.Lines.{lines}
use Rattle.script_text.proofs.Scripts.{refuses_here}
use Rattle.script_text.proofs.reading.read_script.Goals as goal

pub returns-in-Err : goal.returns-in-Err
returns-in-Err c =
    rw c.refused.ensures
    (refuses_here c.args.live (length c.args.bytes.now) c.loop-rest.number c.loop-rest.end c.first_line.result.0.now
    (lines c.first_line.result.1.now) c.loop-rest.place c.in-Err.error _ c.in-Err.ensures (rw c.first_line.ensures.line at c.loop-rest.invariant.same))

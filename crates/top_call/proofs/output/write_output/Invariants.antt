use Rattle.std.proofs.Common.{◌≤◌, ◌-◌, length, take}
use Rattle.std.specs.Io.KnownBytes.{Appends}
use Rattle.top_call.proofs.output.write_output.Given as goal

-- what was written is the front of the text
abbrev pub invariant-loop-done : goal.invariant-loop-done
invariant-loop-done g l =
    let written = g.K.Sink.written in
    let faults = g.K.Sink.faults in
    record {
      bound : l.done ≤ length l.text;
      wrote : Appends (written l.fn.sink) (written l.sink) (take l.done l.text);
      later : faults l.fn.sink ≤ faults l.sink;
    }

abbrev pub decreases-loop-done : goal.decreases-loop-done
decreases-loop-done g l = length l.text - l.done

use Rattle.std.proofs.Common.{◌≡◌, ◌≤◌, ◌-◌, length}
use Rattle.std.specs.Io.KnownBytes.{Consumes}
use Rattle.top_call.specs.Input.{limit}
use Rattle.top_call.proofs.whole_input.read_input.Given as goal

-- what was taken is the text so far
abbrev pub invariant-loop-room : goal.invariant-loop-room
invariant-loop-room g l =
    let left = g.S.Source.left in
    let faults = g.S.Source.faults in
    record {
      taken : Consumes (left l.fn.source) (left l.source) l.text;
      bound : length l.text ≤ limit;
      room : length l.room ≡ 4096;
      later : faults l.fn.source ≤ faults l.source;
    }

abbrev pub decreases-loop-room : goal.decreases-loop-room
decreases-loop-room g l = limit - length l.text

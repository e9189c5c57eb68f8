use Rattle.std.proofs.Common.{◌≡◌, ◌≤◌, ◌<◌, ◌+◌, length}
use Rattle.xfs_base.specs.Limits.{max_lines}
use Rattle.script_text.specs.Lines.{lines}
use Rattle.script_text.specs.Reading.{read_lines, read_script}
use Rattle.script_text.proofs.reading.read_script.Given as goal

-- what is left of the lines leads to what all of them lead to
abbrev pub invariant-loop-rest : goal.invariant-loop-rest
invariant-loop-rest l = record {
  same : read_lines l.live l.total l.number l.end (lines l.rest) l.place ≡ read_script l.live l.bytes;
  few : l.number ≤ max_lines + 1;
  place : 0 < length l.rest → l.end + length l.rest ≤ l.total;
  within : l.end ≤ l.total + 1;
}

abbrev pub decreases-loop-rest : goal.decreases-loop-rest
decreases-loop-rest l = length l.rest

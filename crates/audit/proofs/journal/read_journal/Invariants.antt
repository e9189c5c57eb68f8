use Rattle.std.proofs.Common.{◌≡◌, ◌≤◌, ◌<◌, ◌+◌, length}
use Rattle.script_text.specs.Lines.{lines}
use Rattle.audit.specs.Journal.{journal_from, read_journal}
use Rattle.audit.proofs.journal.read_journal.Given as goal

-- what is left of the lines leads to what all of them lead to
abbrev pub invariant-loop-rest : goal.invariant-loop-rest
invariant-loop-rest l = record {
  same : journal_from l.total l.end l.number (lines l.rest) l.journal ≡ read_journal l.bytes;
  even : length l.journal.acts ≡ length l.journal.lines;
  place : 0 < length l.rest → l.end + length l.rest ≤ l.total;
  within : l.end ≤ l.total + 1;
  few : l.number ≤ l.end + 1;
  small : l.end ≤ 1048577;
}

abbrev pub decreases-loop-rest : goal.decreases-loop-rest
decreases-loop-rest l = length l.rest

use Rattle.std.proofs.Common.{◌≡◌, ◌-◌}
use Rattle.segment_format.specs.ReadingFields.{rows_at}
use Rattle.segment_format.proofs.Loops.{with_front}
use Rattle.segment_format.proofs.decode_fields.rows_of.Given as goal

-- the rows so far, and those still to read, are all
abbrev pub invariant-loop : goal.invariant-loop
invariant-loop l = with_front l.rows (rows_at (l.count - l.counter) l.reader) ≡ rows_at l.count l.fn.reader

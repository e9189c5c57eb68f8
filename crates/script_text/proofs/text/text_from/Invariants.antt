use Rattle.std.proofs.Common.{◌≡◌, length}
use Rattle.script_text.specs.declared.text.Mark.TheVariants as mark
use Rattle.script_text.specs.Reading.{text_from, IsMark}
use Rattle.script_text.proofs.Loops.{with_front}
use Rattle.script_text.proofs.text.text_from.Given as goal

-- what is read so far stands before what the rest gives
abbrev pub invariant-loop-rest : goal.invariant-loop-rest
invariant-loop-rest l = record {
  same : with_front l.text (text_from l.mark l.rest) ≡ text_from mark.Plain l.bytes;
  mark : IsMark l.mark;
}

abbrev pub decreases-loop-rest : goal.decreases-loop-rest
decreases-loop-rest l = length l.rest

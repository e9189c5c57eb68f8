use Rattle.std.proofs.Common.{◌≡◌, ◌++◌, [], take, drop}
use Rattle.transcript.specs.Numbers.{AreOf}
use Rattle.transcript.specs.Replies.{replies_of}
use Rattle.transcript.specs.Text.{lines_text}
use Rattle.transcript.proofs.transcript.add_lines.Given as goal

abbrev pub invariant-loop-line : goal.invariant-loop-line
invariant-loop-line l = record {
  text : l.text ++ lines_text l.acts (replies_of l.acts) (take l.line-index l.lines) (drop l.line-index l.lines) ≡ l.fn.text
      ++ lines_text l.acts (replies_of l.acts) [] l.lines;
  numbers : AreOf l.numbers (take l.line-index l.lines);
}

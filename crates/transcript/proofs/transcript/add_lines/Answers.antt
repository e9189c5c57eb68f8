use Rattle.transcript.proofs.Lines.{lines_kept, all_numbers_kept}
use Rattle.transcript.specs.Replies.{replies_of}
use Rattle.transcript.proofs.transcript.add_lines.Goals as goal

pub loop-line-preserved : goal.loop-line-preserved
loop-line-preserved c = record {
  text = lines_kept c.args.acts.now
      (replies_of c.args.acts.now)
      c.in_ok-replies.replies c.loop-line.numbers c.loop-line.text c.add_line.new.text _ c.args.lines.now c.loop-line.line-index _ c.line-item.result
      c.loop-line-test.true c.line-item.is c.in_ok-replies.ensures c.loop-line.invariant.numbers c.loop-line.invariant.text c.in_ok-add_line.ensures.text;
  numbers = all_numbers_kept c.loop-line.numbers c.add_line.new.numbers c.args.lines.now c.loop-line.line-index _ c.line-item.result c.loop-line-test.true
      c.line-item.is c.loop-line.invariant.numbers c.in_ok-add_line.ensures.numbers;
}

use Rattle.std.proofs.Common.{◌≡◌, length}
use Rattle.audit.specs.Acts.{read_each, read_segment}
use Rattle.audit.proofs.Each.{behind}
use Rattle.audit.proofs.act.read_segments.Given as goal

-- what is read, and then the words that are left, are all the words
abbrev pub invariant-loop-segments : goal.invariant-loop-segments
invariant-loop-segments l = behind l.segments (read_each read_segment l.words) ≡ read_each read_segment l.fn.words

abbrev pub decreases-loop-segments : goal.decreases-loop-segments
decreases-loop-segments l = length l.words

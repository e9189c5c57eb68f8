use Rattle.std.proofs.Common.{◌≡◌, length}
use Rattle.std.specs.List.{list_all}
use Rattle.audit.specs.Shapes.{is_segment}
use Rattle.audit.proofs.shape.are_segments.Given as goal

-- those that are left decide
abbrev pub invariant-loop-words : goal.invariant-loop-words
invariant-loop-words l = list_all is_segment l.words ≡ list_all is_segment l.fn.words

abbrev pub decreases-loop-words : goal.decreases-loop-words
decreases-loop-words l = length l.words

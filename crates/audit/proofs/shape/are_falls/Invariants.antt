use Rattle.std.proofs.Common.{◌≡◌, length}
use Rattle.std.specs.List.{list_all}
use Rattle.audit.specs.Shapes.{is_fall}
use Rattle.audit.proofs.shape.are_falls.Given as goal

-- those that are left decide
abbrev pub invariant-loop-words : goal.invariant-loop-words
invariant-loop-words l = list_all is_fall l.words ≡ list_all is_fall l.fn.words

abbrev pub decreases-loop-words : goal.decreases-loop-words
decreases-loop-words l = length l.words

use Rattle.std.proofs.Common.{◌≡◌, length}
use Rattle.audit.specs.Acts.{read_each, read_fall}
use Rattle.audit.proofs.Each.{behind}
use Rattle.audit.proofs.act.read_falls.Given as goal

-- what is read, and then the words that are left, are all the words
abbrev pub invariant-loop-falls : goal.invariant-loop-falls
invariant-loop-falls l = behind l.falls (read_each read_fall l.words) ≡ read_each read_fall l.fn.words

abbrev pub decreases-loop-falls : goal.decreases-loop-falls
decreases-loop-falls l = length l.words

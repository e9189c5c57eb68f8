use Rattle.std.proofs.Common.{◌≡◌, ◌++◌, ◌≤◌, length}
use Rattle.script_text.specs.Words.{parted}
use Rattle.script_text.proofs.path.names_of.Given as goal

abbrev pub invariant-loop-name : goal.invariant-loop-name
invariant-loop-name l = record {
  same : l.names ++ parted 47 l.rest ≡ parted 47 l.bytes;
  few : length l.names ≤ 16;
}

abbrev pub decreases-loop-name : goal.decreases-loop-name
decreases-loop-name l = length l.rest

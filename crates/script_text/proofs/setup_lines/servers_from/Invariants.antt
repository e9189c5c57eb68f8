use Rattle.std.proofs.Common.{◌≡◌, [], length}
use Rattle.script_text.specs.Reading.{servers_from}
use Rattle.script_text.proofs.setup_lines.servers_from.Given as goal

abbrev pub invariant-loop-group : goal.invariant-loop-group
invariant-loop-group l = servers_from l.servers l.group l.words ≡ servers_from l.servers [] l.fn.words

abbrev pub decreases-loop-group : goal.decreases-loop-group
decreases-loop-group l = length l.words

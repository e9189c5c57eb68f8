use Rattle.std.proofs.Common.{◌≡◌, ◌++◌}
use Rattle.token_client.proofs.marks.listed.Given as goal

-- the blocks so far and those to come are all
abbrev pub invariant-loop-block : goal.invariant-loop-block
invariant-loop-block l = l.found ++ l.block-iterator ≡ l.set.keys

use Rattle.std.proofs.Common.{◌≡◌, ◌++◌}
use Rattle.token_client.specs.State.{held_in}
use Rattle.token_client.proofs.table.held_blocks.Given as goal

abbrev pub invariant-loop-block : goal.invariant-loop-block
invariant-loop-block l = l.found ++ held_in l.slot l.block-iterator ≡ held_in l.slot l.blocks.entries

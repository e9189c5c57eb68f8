use Rattle.std.proofs.Common.{◌≡◌, ◌++◌}
use Rattle.token_client.specs.Transition.{fetched_blocks}
use Rattle.token_client.proofs.table.fetched_blocks.Given as goal

abbrev pub invariant-loop-block : goal.invariant-loop-block
invariant-loop-block l = l.found ++ fetched_blocks l.slot l.block-iterator ≡ fetched_blocks l.slot l.blocks.entries

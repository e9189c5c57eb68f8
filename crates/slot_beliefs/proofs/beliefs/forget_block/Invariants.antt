use Rattle.std.proofs.Common.{◌≡◌}
use Rattle.std.specs.BTreeMap.{btree_map_len}
use Rattle.slot_beliefs.specs.Beliefs.{forget_block}
use Rattle.slot_beliefs.proofs.beliefs.forget_block.Given as goal

-- no belief about another block is gone
abbrev pub invariant-loop-holder : goal.invariant-loop-holder
invariant-loop-holder l = forget_block l.beliefs.entries l.block ≡ forget_block l.initial.beliefs.entries l.block

abbrev pub decreases-loop-holder : goal.decreases-loop-holder
decreases-loop-holder l = btree_map_len l.beliefs

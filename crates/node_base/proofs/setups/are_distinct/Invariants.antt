use Rattle.std.proofs.Common.{◌≡◌, drop}
use Rattle.node_base.specs.Setups.{are_distinct}
use Rattle.node_base.proofs.setups.are_distinct.Given as goal

-- those so far differ from all behind them, so all depends on those to come
abbrev pub invariant-loop-place : goal.invariant-loop-place
invariant-loop-place l = are_distinct (drop l.place l.numbers) ≡ are_distinct l.numbers

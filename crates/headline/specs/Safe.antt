-- What is claimed of each run of the xFS nodes, in whatever order its items begin. What is said of versions (`legal_acts`, `holders_newest`, `versions_newest`,
-- `updates`, `changes`, `settled`, and in `linearizable` and `syncs_settle`), of indexes (`indexes`), of what clients that serve lose, and that what takeovers
-- lose had been filed (both in `losses_earned`), ends with the first restart that is doubtful; nothing else does. A script without a line by which a server loses
-- its disk has no such restart (`undoubted`).
use Rattle.core_world.specs.declared.any_node.AnyNode.{AnyNode}
use Rattle.world_base.specs.declared.estate.Estate.{Estate}
use Rattle.headline.specs.Inside.{InsideIsSafe}
use Rattle.headline.specs.Outside.{OutsideIsSafe}

-- Of each run of the xFS nodes, whatever messages are lost, repeated or reordered and whichever nodes stop:
pub record IsSafe (e : Estate AnyNode) : Type 0 where
  -- what a caller or a reader of the text sees: answers, versions, falls, what is settled, and losses
  pub outside : OutsideIsSafe e
  -- and what nodes keep inside, on which that rests: owners, managers, logs, deletions, indexes
  pub inside : InsideIsSafe e

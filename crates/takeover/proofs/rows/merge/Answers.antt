use Rattle.std.proofs.Common.{rules}
use Rattle.std.proofs.lemmas.List.{at_drop_more}
use Rattle.delta_index.specs.Index.{merged_all}
use Rattle.takeover.proofs.rows.merge.Goals as goal

pub loop-block-preserved : goal.loop-block-preserved
loop-block-preserved c = search (rules, at_drop_more (merged_all c.loop-block.index) c.args.rows.now c.loop-block.block-index)

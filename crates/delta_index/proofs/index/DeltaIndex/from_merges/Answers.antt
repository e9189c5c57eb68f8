use Rattle.std.proofs.Common.{◌≡◌, [], rules, arith, ◌∙◌, ap}
use Rattle.std.proofs.lemmas.Grind.{common_steps}
use Rattle.std.proofs.lemmas.List.{at_drop_more}
use Rattle.delta_index.specs.Index.{entry_of, merged_all}
use Rattle.delta_index.proofs.IndexJoin.{index_join}
use Rattle.delta_index.proofs.index.DeltaIndex.from_merges.Goals as goal

pub loop-block-preserved : goal.loop-block-preserved
loop-block-preserved c = search (rules, at_drop_more (merged_all c.loop-block.index) c.args.merges.now c.loop-block.block-index)

pub returns-clause-joins : goal.returns-clause-joins
returns-clause-joins c =
    let all : c.loop-block.index ≡ merged_all [] c.args.merges.now = grind (arith, common_steps) in
    λ block. ap (λ r. entry_of r block) all ∙ index_join c.args.merges.now block

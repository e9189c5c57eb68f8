use Rattle.std.proofs.Common.{rules}
use Rattle.std.proofs.lemmas.List.{at_drop_more}
use Rattle.slot_beliefs.specs.Index.{merge_all}
use Rattle.slot_beliefs.proofs.Counting.{fits_next}
use Rattle.slot_beliefs.proofs.index.BlockIndex.merge_all.Goals as goal

pub loop-row-preserved : goal.loop-row-preserved
loop-row-preserved c = record {
  room = fits_next _ _ c.args.rows.now c.loop-row.row-index _ c.in_ok-merge.ensures.counted.0 c.in_ok-merge.ensures.ok c.loop-row-test.true
      c.loop-row.invariant.room;
  all = search (rules, at_drop_more (merge_all c.loop-row.self) c.args.rows.now c.loop-row.row-index);
}

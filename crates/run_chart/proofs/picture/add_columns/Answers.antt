use Rattle.std.proofs.Common.{◌+◌, ◌-◌, ◌++◌, sym, ap, ◌∙◌, append_assoc}
use Rattle.std.specs.List.{flat_map, range_with_len}
use Rattle.run_chart.specs.Drawing.{column_text}
use Rattle.world_base.proofs.Ranges.{range_step}
use Rattle.run_chart.proofs.picture.add_columns.Goals as goal

pub loop-column-preserved : goal.loop-column-preserved
loop-column-preserved c =
    let one = column_text c.args.cluster c.args.rows in
    let i = c.loop-column.column in
    let end = c.columns_in-column-end.result in
    let rest = flat_map one (range_with_len (i + 1) (end - (i + 1))) in
    ap (λ front. front ++ rest) c.in_ok-add_column.ensures
    ∙ append_assoc c.loop-column.out (one i) rest
    ∙ ap (λ columns. c.loop-column.out ++ flat_map one columns) (sym (range_step i end c.loop-column-test.true))
    ∙ c.loop-column.invariant

use Rattle.std.proofs.Common.{rules}
use Rattle.std.specs.Ordering.{is_gt}
use Rattle.std.proofs.lemmas.List.Sorted.{IsPartitionPoint-from_clause}
use Rattle.file_plan.specs.Names.{Row, name_cmp}
use Rattle.file_plan.proofs.Halves.{past_before, halves}
use Rattle.file_plan.proofs.rows.count_before.Goals as goal

pub returns : goal.returns
returns c =
    let parted = past_before c.args.name.now c.args.rows.now c.requires in
    let point = IsPartitionPoint-from_clause (λ (row : Row). is_gt (name_cmp c.args.name.now row.0)) _ _ c.partition_point.ensures.partitioned parted
    (λ a r q k. search rules) in
    halves c.args.name.now c.args.rows.now c.partition_point.result c.requires c.partition_point.ensures.bound point.0 point.1

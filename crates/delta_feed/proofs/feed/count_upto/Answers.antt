use Rattle.std.proofs.Common.{leb, leb-true, rules}
use Rattle.std.proofs.lemmas.Bool.{leb-false}
use Rattle.std.proofs.lemmas.List.Sorted.{IsPartitionPoint-from_clause, IsPartitionedBy-leb}
use Rattle.delta_feed.specs.declared.feed.FiledDeltas.{FiledDeltas}
use Rattle.delta_feed.proofs.Skipping.{skipped}
use Rattle.delta_feed.proofs.feed.count_upto.Goals as goal

pub returns-clause-rest : goal.returns-clause-rest
returns-clause-rest c =
    let parted = IsPartitionedBy-leb (λ (f : FiledDeltas). f.seq) _ c.args.number c.requires in
    let point = IsPartitionPoint-from_clause (λ (f : FiledDeltas). leb f.seq c.args.number) _ _ c.partition_point.ensures.partitioned parted
    (λ a r q k. search rules) in
    λ slot. skipped slot c.args.number _ _ (λ k d from upto. leb-true _ _ (point.0 k d from upto), λ k d from upto. leb-false _ _ (point.1 k d from upto))

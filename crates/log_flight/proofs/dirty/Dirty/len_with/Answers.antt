use Rattle.std.proofs.Common.{◌+◌, ap, sym, ◌∙◌}
use Rattle.xfs_base.specs.Blocks.{same_block}
use Rattle.log_flight.proofs.Lengths.{length-insert_present, length-insert_absent}
use Rattle.log_flight.proofs.dirty.Dirty.len_with.Goals as goal

pub returns-then-contains_key : goal.returns-then-contains_key
returns-then-contains_key c =
    rw (← c.self.view_is)
    (c.len.ensures.len
    ∙ sym (length-insert_present same_block c.args.block c.args.change.now c.self.inside.changes.entries (sym c.contains_key.ensures ∙ c.if-contains_key.true)))

pub returns-else-contains_key : goal.returns-else-contains_key
returns-else-contains_key c =
    rw (← c.self.view_is)
    (ap (λ n. n + 1) c.len-else-contains_key.ensures.len
    ∙ sym (length-insert_absent same_block c.args.block c.args.change.now c.self.inside.changes.entries (sym c.contains_key.ensures ∙ c.if-contains_key.false)))

use Rattle.std.proofs.Common.{sym, ◌∙◌}
use Rattle.group_rebuild.proofs.Loops.{listed_step}
use Rattle.group_rebuild.proofs.rebuild.add_metas.Goals as goal

pub loop-meta-preserved : goal.loop-meta-preserved
loop-meta-preserved c =
    rw c.in_ok-insert.ensures.entries
    (sym (listed_step c.args.metas.now c.loop-meta.meta-index c.loop-meta.listed.entries _ c.loop-meta-test.true) ∙ c.loop-meta.invariant)

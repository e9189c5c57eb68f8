use Rattle.std.proofs.Common.{sym, ◌∙◌}
use Rattle.group_rebuild.proofs.Loops.{without_step}
use Rattle.group_rebuild.proofs.rebuild.remove_names.Goals as goal

pub loop-name-preserved : goal.loop-name-preserved
loop-name-preserved c =
    rw c.remove.ensures.entries
    (sym (without_step c.args.names.now c.loop-name.name-index c.loop-name.listed.entries _ c.loop-name-test.true) ∙ c.loop-name.invariant)

use Rattle.std.proofs.Common.{◌+◌, ◌++◌, drop, ap, ◌∙◌}
use Rattle.std.specs.Prelude.{option_to_list}
use Rattle.std.proofs.lemmas.Bool.{le-leb, lt-leb}
use Rattle.log_scan.specs.Pick.{above, newest}
use Rattle.log_scan.proofs.Loops.{meta_step, meta_skip}
use Rattle.log_scan.proofs.pick.newest_with.Goals as goal
use Rattle.log_scan.proofs.pick.newest_with.Goals.{then-low-meta, else-low-meta}

pub loop-meta-preserved : goal.loop-meta-preserved
loop-meta-preserved c =
    let i = c.loop-meta.meta-index in
    let metas = c.args.metas.now in
    elim c.if-low-meta.branch [
      | then-low-meta w ↦ meta_step c.loop-meta.best c.if-low-meta.best c.args.low metas i _ c.loop-meta-test.true (le-leb c.args.low _ w.if-low-meta.true)
          (w.best-is ∙ w.newer.ensures) ∙ c.loop-meta.invariant
      | else-low-meta w ↦ ap (λ o. newest (option_to_list o ++ above c.args.low (drop (i + 1) metas))) w.best-is
          ∙ meta_skip c.loop-meta.best c.args.low metas i _ c.loop-meta-test.true (lt-leb c.args.low _ w.if-low-meta.false) ∙ c.loop-meta.invariant
    ]

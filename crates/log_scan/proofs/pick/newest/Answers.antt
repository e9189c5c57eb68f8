use Rattle.std.proofs.Common.{◌++◌, ap, ◌∙◌}
use Rattle.std.specs.Prelude.{option_to_list}
use Rattle.log_scan.specs.declared.listing.Listing.{Listing}
use Rattle.log_scan.specs.Pick.{above, newest}
use Rattle.log_scan.proofs.Loops.{list_step}
use Rattle.log_scan.proofs.pick.newest.Goals as goal

pub loop-list-preserved : goal.loop-list-preserved
loop-list-preserved c =
    list_step c.loop-list.best c.newest_with-best.result c.args.low c.args.lists.now c.loop-list.list-index c.list-item.result c.loop-list-test.true
    (c.newest_with-best.ensures
    ∙ ap (λ ms. newest (option_to_list c.loop-list.best ++ above c.args.low ms)) (c.as_slice.ensures ∙ ap (λ (l : Listing). l.held) c.list-item.is))
    ∙ c.loop-list.invariant

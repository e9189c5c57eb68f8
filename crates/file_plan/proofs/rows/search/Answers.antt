use Rattle.std.proofs.Common.{◌≡◌, ◌<◌, length, ◌∙◌, sym, ap}
use Rattle.std.specs.declared.cmp.Ordering.TheVariants.{Equal}
use Rattle.file_plan.specs.Names.{Row, name_cmp}
use Rattle.file_plan.proofs.RowPlaces.{put_over}
use Rattle.file_plan.proofs.rows.search.Goals as goal

pub returns-in-Equal-clause-placed : goal.returns-in-Equal-clause-placed
returns-in-Equal-clause-placed c = λ node.
    let here : c.loop-i.i < length c.args.rows.now = c.loop-i-test.true in
    let equal : name_cmp c.args.name.now c.index-rows-i.result.0 ≡ Equal =
    ap (λ (r : Row). name_cmp c.args.name.now r.0) c.index-rows-i.is ∙ sym c.in-Equal.ensures in
    c.loop-i.invariant node ∙ put_over c.args.rows.now c.args.name.now node c.loop-i.i c.index-rows-i.result here c.index-rows-i.is equal

use Rattle.std.proofs.Common.{◌≡◌, List, ap, ◌∙◌}
use Rattle.std.proofs.lemmas.Result.{IfOk-weaker}
use Rattle.xfs_base.specs.declared.block.BlockId.{BlockId}
use Rattle.token_client.specs.Marks.{MarksState}
use Rattle.token_client.specs.State.{dirty_in}
use Rattle.token_client.proofs.table.Table.dirty.Goals as goal

pub returns : goal.returns
returns c =
    IfOk-weaker c.unsettled.result (λ (found : List BlockId). found ≡ c.self.inside.marks.unsettled) (λ found. found ≡ dirty_in c.args.self.now)
    (λ found is. is ∙ ap (λ (m : MarksState). m.unsettled) c.self.invariant.marks_are ∙ ap dirty_in c.self.view_is) c.unsettled.ensures

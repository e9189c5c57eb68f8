use Rattle.std.proofs.Common.{◌≡◌, List, ap, ◌∙◌}
use Rattle.std.proofs.lemmas.Result.{IfOk-weaker}
use Rattle.xfs_base.specs.declared.block.BlockId.{BlockId}
use Rattle.token_client.specs.Marks.{MarksState}
use Rattle.token_client.specs.Transition.{wanted_blocks}
use Rattle.token_client.proofs.table.Table.wanted.Goals as goal

pub returns : goal.returns
returns c =
    IfOk-weaker c.wanted.result (λ (found : List BlockId). found ≡ c.self.inside.marks.wanted) (λ found. found ≡ wanted_blocks c.args.self.now)
    (λ found is. is ∙ ap (λ (m : MarksState). m.wanted) c.self.invariant.marks_are ∙ ap wanted_blocks c.self.view_is) c.wanted.ensures

use Rattle.std.proofs.Common.{length, ap, ◌∙◌}
use Rattle.std.specs.Prelude.{◌==◌, not}
use Rattle.std.specs.List.{list_any}
use Rattle.std.specs.Map.{values_of}
use Rattle.token_client.specs.Marks.{MarksState}
use Rattle.token_client.specs.Transition.{is_spent}
use Rattle.token_client.proofs.Marking.{some_where}
use Rattle.token_client.proofs.table.Table.has_spent.Goals as goal

pub returns : goal.returns
returns c =
    c.has_spent.ensures ∙ ap (λ (m : MarksState). not (length m.spent == 0)) c.self.invariant.marks_are
    ∙ some_where (λ h. is_spent h.want) c.self.inside.blocks.entries ∙ ap (λ es. list_any (λ h. is_spent h.want) (values_of es)) c.self.view_is

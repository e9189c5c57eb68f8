use Rattle.std.proofs.Common.{◌≡◌, ◌∙◌, ap}
use Rattle.top_call.specs.Told.{boards_where}
use Rattle.top_call.proofs.boards.write_boards.Goals as goal

pub returns-clause-told : goal.returns-clause-told
returns-clause-told g c = rw c.with_boards.ensures (rw c.into_parts-estate.ensures at c.write_run-outcome.ensures.told)

pub returns-clause-estate : goal.returns-clause-estate
returns-clause-estate g c = rw c.with_boards.ensures (rw c.into_parts-estate.ensures at c.write_run-outcome.ensures.estate)

pub returns-clause-boards : goal.returns-clause-boards
returns-clause-boards g c = rw c.with_boards.ensures (ap (λ x. boards_where c.write_run-outcome.result.estate x.1) c.into_parts-estate.ensures)

pub returns-clause-no_disks : goal.returns-clause-no_disks
returns-clause-no_disks g c = ap (λ o. o.disks) c.with_boards.ensures ∙ c.write_run-outcome.ensures.plain.1

pub returns-clause-no_replies : goal.returns-clause-no_replies
returns-clause-no_replies g c =
    let n = c.write_run-outcome.ensures.plain.2 in
    (ap (λ o. o.calls) c.with_boards.ensures ∙ n.0, ap (λ o. o.replies) c.with_boards.ensures ∙ n.1)

use Rattle.std.proofs.Common.{◌≡◌, ◌∙◌, ap}
use Rattle.top_call.specs.Told.{disks_where}
use Rattle.top_call.proofs.disks.write_disks.Goals as goal

pub returns-clause-told : goal.returns-clause-told
returns-clause-told g c = rw c.with_disks.ensures (rw c.into_parts-estate.ensures at c.write_run-outcome.ensures.told)

pub returns-clause-estate : goal.returns-clause-estate
returns-clause-estate g c = rw c.with_disks.ensures (rw c.into_parts-estate.ensures at c.write_run-outcome.ensures.estate)

pub returns-clause-disks : goal.returns-clause-disks
returns-clause-disks g c = rw c.with_disks.ensures (ap (λ x. disks_where c.write_run-outcome.result.estate x.1) c.into_parts-estate.ensures)

pub returns-clause-no_boards : goal.returns-clause-no_boards
returns-clause-no_boards g c = ap (λ o. o.boards) c.with_disks.ensures ∙ c.write_run-outcome.ensures.plain.0

pub returns-clause-no_replies : goal.returns-clause-no_replies
returns-clause-no_replies g c =
    let n = c.write_run-outcome.ensures.plain.2 in
    (ap (λ o. o.calls) c.with_disks.ensures ∙ n.0, ap (λ o. o.replies) c.with_disks.ensures ∙ n.1)

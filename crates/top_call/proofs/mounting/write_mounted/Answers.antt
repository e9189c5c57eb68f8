use Rattle.std.proofs.Common.{◌≡◌, ◌∙◌, ap}
use Rattle.top_call.specs.Told.{lists_where}
use Rattle.top_call.proofs.mounting.write_mounted.Goals as goal

pub returns-clause-told : goal.returns-clause-told
returns-clause-told g c = rw c.with_replies.ensures (rw c.into_parts-estate.ensures at c.write_run-outcome.ensures.told)

pub returns-clause-estate : goal.returns-clause-estate
returns-clause-estate g c = rw c.with_replies.ensures (rw c.into_parts-estate.ensures at c.write_run-outcome.ensures.estate)

pub returns-clause-calls : goal.returns-clause-calls
returns-clause-calls g c = rw c.with_replies.ensures (ap (λ x. lists_where c.write_run-outcome.result.estate x.1) c.into_parts-estate.ensures)

pub returns-clause-replies : goal.returns-clause-replies
returns-clause-replies g c = rw c.with_replies.ensures (ap (λ x. lists_where c.write_run-outcome.result.estate x.2) c.into_parts-estate.ensures)

pub returns-clause-no_boards : goal.returns-clause-no_boards
returns-clause-no_boards g c = ap (λ o. o.boards) c.with_replies.ensures ∙ c.write_run-outcome.ensures.plain.0

pub returns-clause-no_disks : goal.returns-clause-no_disks
returns-clause-no_disks g c = ap (λ o. o.disks) c.with_replies.ensures ∙ c.write_run-outcome.ensures.plain.1

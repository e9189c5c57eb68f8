use Rattle.token_client.proofs.Marking.{none_known}
use Rattle.token_client.proofs.table.Table.new.Goals as goal

pub invariant_of-result : goal.invariant_of-result
invariant_of-result c = none_known c.new.ensures.empty c.new-2.ensures

use Rattle.token_client.proofs.Marking.{table_removed}
use Rattle.token_client.proofs.table.Table.take.Goals as goal

pub invariant_of-self : goal.invariant_of-self
invariant_of-self c = table_removed c.args.block c.self.invariant c.remove.ensures.entries c.forget.ensures

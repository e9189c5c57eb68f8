use Rattle.token_client.proofs.Marking.{table_dropped}
use Rattle.token_client.proofs.table.Table.drop_all_in.Goals as goal

pub invariant_of-self : goal.invariant_of-self
invariant_of-self c = table_dropped c.args.slot c.self.invariant c.drop_all_in.ensures

use Rattle.token_client.proofs.Marking.{table_put}
use Rattle.token_client.proofs.table.Table.put.Goals as goal

pub invariant_of-self : goal.invariant_of-self
invariant_of-self c = table_put c.args.block c.args.held c.put_marked.result c.self.invariant c.put_marked.ensures.blocks c.put_marked.ensures.marks c.put_marked.ensures.none

use Rattle.file_plan.proofs.MoveOrder.{adds_before_it_removes}
use Rattle.file_plan.proofs.RemovalOrder.{removes_entry_first}
use Rattle.file_plan.proofs.laws.writes_keep_their_order.Goals as goal

pub returns : goal.returns
returns c = record { removes = removes_entry_first; moves = adds_before_it_removes }

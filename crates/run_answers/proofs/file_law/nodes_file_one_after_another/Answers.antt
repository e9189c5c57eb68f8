use Rattle.run_answers.proofs.file_law.EachNode.{each_node}
use Rattle.run_answers.proofs.file_law.nodes_file_one_after_another.Goals as goal

pub returns : goal.returns
returns c = record { runs = each_node }

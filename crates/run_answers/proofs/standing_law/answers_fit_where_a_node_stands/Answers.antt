use Rattle.run_answers.proofs.standing_law.Runs.{each_fits}
use Rattle.run_answers.proofs.standing_law.answers_fit_where_a_node_stands.Goals as goal

pub returns : goal.returns
returns c = record { fits = each_fits }

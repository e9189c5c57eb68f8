use Rattle.node_logs.proofs.manager_log_tie.Told.{told_in_range}
use Rattle.node_logs.proofs.manager_log_tie.what_is_told_is_in_range.Goals as goal

pub returns : goal.returns
returns c = told_in_range c.one_name_one_text.ensures.one_text

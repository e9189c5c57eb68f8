use Rattle.log_law.proofs.Restarted.{a_restart_files_the_tail}
use Rattle.log_law.proofs.Tails.{a_tail_is_filed_or_never}
use Rattle.log_law.proofs.a_tail_is_filed_or_never.Goals as goal

pub returns : goal.returns
returns c = record { tail = a_tail_is_filed_or_never c.below.ensures; only = a_restart_files_the_tail c.below.ensures }

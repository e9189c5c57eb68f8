use Rattle.log_law.proofs.Wholeness.{one_name_one_text}
use Rattle.log_law.proofs.one_name_one_text.Goals as goal

pub returns : goal.returns
returns c = record { one_text = one_name_one_text c.below.ensures }

use Rattle.std.proofs.Common.{refl}
use Rattle.file_plan.specs.Names.{is_good}
use Rattle.file_plan.specs.Format.{has_row}
use Rattle.file_plan.proofs.laws.worked_calls_reply_so.Goals as goal

pub returns : goal.returns
unfolding is_good has_row
returns c = record { short = refl; long = refl }

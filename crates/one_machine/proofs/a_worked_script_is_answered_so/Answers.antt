use Rattle.std.proofs.Common.{refl}
use Rattle.std.specs.Fmt.{digits}
use Rattle.file_plan.specs.Format.{has_row}
use Rattle.file_plan.specs.Names.{is_good}
use Rattle.one_machine.proofs.a_worked_script_is_answered_so.Goals as goal

pub returns : goal.returns
unfolding digits is_good has_row
returns c = record { text = refl }

use Rattle.script_text.proofs.Scripts.{always_one, one_script, one_fault, never_both}
use Rattle.script_text.proofs.laws.one_script_or_fault.Goals as goal

pub returns-clause-always_one : goal.returns-clause-always_one
returns-clause-always_one c = always_one

pub returns-clause-one_script : goal.returns-clause-one_script
returns-clause-one_script c = one_script

pub returns-clause-one_fault : goal.returns-clause-one_fault
returns-clause-one_fault c = one_fault

pub returns-clause-never_both : goal.returns-clause-never_both
returns-clause-never_both c = never_both

use Rattle.quiet_run.proofs.FromOwner.{gets_from_owner}
use Rattle.quiet_run.proofs.owned_copies_are_passed_on.Goals as goal

pub returns : goal.returns
returns c = record {
  passed = λ setup works ok k s t d b o os few drained stands sorted next asks are clean.
      gets_from_owner setup works ok k s t d b o os few drained stands sorted next asks are clean;
}

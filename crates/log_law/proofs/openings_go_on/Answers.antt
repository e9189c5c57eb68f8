use Rattle.log_law.proofs.Boots.{a_restart_files_one}
use Rattle.log_law.proofs.Flying.{flies_next}
use Rattle.log_law.proofs.GoingOn.{openings_go_on}
use Rattle.log_law.proofs.Unfiled.{nothing_filed_opening}
use Rattle.log_law.proofs.openings_go_on.Goals as goal

pub returns : goal.returns
returns c = record {
  on = openings_go_on c.below.ensures;
  flies = flies_next c.below.ensures;
  unfiled = nothing_filed_opening c.below.ensures;
  one = a_restart_files_one c.below.ensures;
}

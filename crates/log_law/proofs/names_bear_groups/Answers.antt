use Rattle.log_law.proofs.Groups.{ends_name_groups, priors_name_groups}
use Rattle.log_law.proofs.names_bear_groups.Goals as goal

pub returns : goal.returns
returns c = record { priors = priors_name_groups c.below.ensures; ends = ends_name_groups c.below.ensures }

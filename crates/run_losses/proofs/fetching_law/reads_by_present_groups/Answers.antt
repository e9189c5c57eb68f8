use Rattle.run_losses.proofs.fetching_law.Present.{reads_by_present_groups}
use Rattle.run_losses.proofs.fetching_law.reads_by_present_groups.Goals as goal

pub returns : goal.returns
returns c = record {
  present = reads_by_present_groups;
}

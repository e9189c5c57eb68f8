use Rattle.run_laws.proofs.world_lines.Owners as owners
use Rattle.run_laws.proofs.world_lines.Straight as straight
use Rattle.run_laws.proofs.world_lines.owners_lines_go_on.Goals as goal

pub returns : goal.returns
returns c = record {
  acts = owners.acts_are_done;
  clients_short = owners.clients_file_short;
  cleaner_short = owners.cleaner_files_short;
  in_boot = owners.in_boot_files_still c.laws_of_logs.ensures.unfiled;
  straight = straight.straight_files_still c.laws_of_logs.ensures.unfiled;
  clients = owners.clients_lines_go_on c.laws_of_logs.ensures.whole c.laws_of_logs.ensures.last;
  cleaner = owners.cleaners_line_goes_on c.laws_of_logs.ensures.whole c.laws_of_logs.ensures.last;
}

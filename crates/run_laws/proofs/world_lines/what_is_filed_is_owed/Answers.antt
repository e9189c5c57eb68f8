use Rattle.run_laws.proofs.world_lines.Turns as turns
use Rattle.run_laws.proofs.world_lines.what_is_filed_is_owed.Goals as goal

pub returns : goal.returns
returns c = record {
  client = turns.clients_files_are_owed c.what_flew_is_written.ensures.written c.logs_stay_whole.ensures.whole;
  cleaner = turns.cleaners_files_are_owed c.what_flew_is_written.ensures.written c.logs_stay_whole.ensures.whole;
}

use Rattle.run_laws.proofs.reopening_law.Backing.{clients_come_back}
use Rattle.run_laws.proofs.reopening_law.Ending.{ends_are_reopenings, openings_end_by_one}
use Rattle.run_laws.proofs.reopening_law.openings_end_by_one_thing.Goals as goal

pub returns : goal.returns
returns c = record { ends = openings_end_by_one; reopens = ends_are_reopenings; back = clients_come_back }

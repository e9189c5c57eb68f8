use Rattle.run_laws.proofs.reopening_law.Reading.{reopenings_read_back}
use Rattle.run_laws.proofs.reopening_law.what_was_read_back_is_what_was_filed.Goals as goal

pub returns : goal.returns
returns c = record { back = reopenings_read_back c.below.ensures }

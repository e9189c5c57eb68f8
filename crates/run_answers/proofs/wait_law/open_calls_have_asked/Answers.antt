use Rattle.run_answers.proofs.wait_law.Runs.{each_run}
use Rattle.run_answers.proofs.wait_law.Waits.{event_waits, start_waits}
use Rattle.run_answers.proofs.wait_law.open_calls_have_asked.Goals as goal

pub returns : goal.returns
returns c =
    (let gives = c.puts_off_what_is_dirty.ensures.dirty in record { starts = start_waits; events = event_waits gives; runs = each_run gives })

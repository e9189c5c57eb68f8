use Rattle.run_holdings.proofs.boot_law.Runs.{every_run_files_one}
use Rattle.run_holdings.proofs.boot_law.the_cleaner_files_one_segment_of_its_boot.Goals as goal

pub returns : goal.returns
returns c = record { one = every_run_files_one c.openings_go_on.ensures.one c.settings_exist.ensures.0 c.runs_keep_logs.ensures.lines }

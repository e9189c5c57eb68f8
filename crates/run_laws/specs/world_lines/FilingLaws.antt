-- The laws of what the owners of logs act to be filed, taken together.
use Rattle.run_laws.specs.world_lines.Filing.{CleanerFilesItsFlights, ClientsActsFile, ClientsFileTheirFlights, OpeningsFileWhatFlew, WhatIsFiledFlew}
use Rattle.run_laws.specs.world_lines.Polls.{ServersGoOnByFlights}
use Rattle.run_laws.specs.world_lines.Turns.{CleanersFilesAreOwed, ClientsFilesAreOwed}

pub record FilingLaws : Type 0 where
  pub clients_files_are_owed : ClientsFilesAreOwed
  pub cleaners_files_are_owed : CleanersFilesAreOwed
  pub what_is_filed_flew : WhatIsFiledFlew
  pub openings_file_what_flew : OpeningsFileWhatFlew
  pub clients_file_their_flights : ClientsFileTheirFlights
  pub cleaner_files_its_flights : CleanerFilesItsFlights
  pub clients_acts_file : ClientsActsFile
  pub servers_go_on_by_flights : ServersGoOnByFlights

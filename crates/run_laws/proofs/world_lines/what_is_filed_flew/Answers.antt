use Rattle.log_law.specs.LogLaws.{LogLaws}
use Rattle.run_laws.proofs.world_lines.Filing as filing
use Rattle.run_laws.proofs.world_lines.Straight as straight
use Rattle.run_laws.proofs.world_lines.what_is_filed_flew.Goals as goal
use Rattle.run_laws.specs.world_lines.Filing.{OpeningsFileWhatFlew}

pub returns : goal.returns
returns c =
    let logs : LogLaws = c.laws_of_logs.ensures in
    let openings : OpeningsFileWhatFlew = filing.openings_file_what_flew logs.whole logs.held logs.written c.settles_what_is_due.ensures in
    record {
      filed = filing.what_is_filed_flew logs.whole;
      openings = openings;
      restarts = straight.restarts_file_what_flew logs.whole logs.unfiled openings;
      clients = filing.clients_file_their_flights logs.held logs.written logs.next c.owners_file_their_flights.ensures.client;
      cleaner = filing.cleaner_files_its_flights logs.held logs.written logs.next c.owners_file_their_flights.ensures.cleaner;
    }

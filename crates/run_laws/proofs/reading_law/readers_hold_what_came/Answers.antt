use Rattle.run_laws.proofs.reading_law.Fronts.{runs_read}
use Rattle.run_laws.proofs.reading_law.Turns.{NodeLaws}
use Rattle.run_laws.proofs.reading_law.readers_hold_what_came.Goals as goal

pub returns : goal.returns
returns c =
    let client = c.clients_read_what_came.ensures in
    let manager = c.managers_read_what_came.ensures in
    let cleaner = c.cleaner_reads_what_came.ensures in
    let met = c.cleaner_empties_what_was_listed.ensures in
    let nodes : NodeLaws = record {
      client = record { starts = client.start; stays = client.rises; events = client.events };
      manager = record { starts = manager.start; stays = manager.rises; events = manager.events };
      cleaner = record { starts = cleaner.start; stays = cleaner.rises; events = cleaner.events };
      met = record { starts = met.start; stays = met.rises; events = met.events };
    } in
    record { runs = runs_read (record { nodes = nodes; tokens = c.nodes_are_seen.ensures; groups = c.groups_stay_as_made.ensures }) }

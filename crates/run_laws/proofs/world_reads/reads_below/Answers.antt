use Rattle.run_laws.proofs.world_reads.reads_below.Goals as goal

pub returns : goal.returns
returns c =
    let client = c.clients_tell_told_entries.ensures in
    let manager = c.managers_tell_told_entries.ensures in
    let cleaner = c.cleaner_tells_told_entries.ensures in
    record {
      kinds = record {
        client = record { starts = client.start; stays = client.rises; events = client.events };
        manager = record { starts = manager.start; stays = manager.rises; events = manager.events };
        cleaner = record { starts = cleaner.start; stays = cleaner.rises; events = cleaner.events };
        server = c.servers_tell_no_entries.ensures.events;
        registry = c.registry_tells_no_entries.ensures.events;
      };
      places = c.place_laws.ensures;
      takeovers_read_what_came = c.managers_read_what_came.ensures.reads;
      runs_read_what_came = c.readers_hold_what_came.ensures.runs;
    }

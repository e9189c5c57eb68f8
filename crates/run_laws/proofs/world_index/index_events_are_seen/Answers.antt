use Rattle.run_laws.proofs.world_index.index_events_are_seen.Goals as goal

pub returns : goal.returns
returns c =
    let client = c.client_index_events_are_seen.ensures in
    let manager = c.manager_events_are_seen.ensures in
    let cleaner = c.cleaner_index_events_are_seen.ensures in
    record {
      client = record { starts = client.start; stays = client.others; events = client.events };
      manager = record { starts = manager.start; stays = manager.others; events = manager.events };
      cleaner = record { starts = cleaner.start; stays = cleaner.others; events = cleaner.events };
      server = c.server_index_events_are_seen.ensures;
      registry_starts = c.registry_events_are_seen.ensures.start;
      registry = c.registry_events_are_seen.ensures.events;
      begins = c.nodes_are_seen.ensures.begins;
      maps = c.nodes_are_seen.ensures.registry;
      managed = c.cleaning_loses_nothing.ensures.managed;
    }

use Rattle.run_laws.proofs.world_logs.log_events_are_seen.Goals as goal

pub returns : goal.returns
returns c =
    let client = c.client_log_events_are_seen.ensures in
    let owner = c.cleaner_log_events_are_seen.ensures in
    let manager = c.manager_log_events_are_seen.ensures in
    let server = c.server_events_are_seen.ensures in
    let tells = c.what_servers_tell_is_bytes.ensures in
    let lists = c.servers_list_what_was_stored.ensures in
    let cleaner = c.cleaner_events_are_seen.ensures in
    let registry = c.registry_events_are_seen.ensures in
    record {
      client = record { starts = client.start; events = client.events };
      owner = record { starts = owner.start; events = owner.events };
      manager = record { starts = manager.start; events = manager.events };
      server = record { starts = server.start; events = server.events };
      maps = server.maps;
      tells = record { starts = tells.start; events = tells.events };
      lists = record { starts = lists.start; events = lists.events };
      cleaner = record { starts = cleaner.start; events = cleaner.events };
      cleaner_stores = cleaner.own;
      registry = record { starts = registry.start; events = registry.events };
      registry_above = registry.above;
    }

use Rattle.run_laws.proofs.filed_law.nodes_tell_what_is_filed.Goals as goal

pub returns : goal.returns
returns c =
    let client = c.clients_tell_what_is_filed.ensures in
    let manager = c.managers_tell_what_is_filed.ensures in
    let cleaner = c.cleaner_tells_what_is_filed.ensures in
    let registry = c.registry_tells_what_is_filed.ensures in
    let server = c.servers_tell_what_is_filed.ensures in
    record {
      client = record { starts = client.start; stays = client.rises; events = client.events };
      manager = record { starts = manager.start; stays = manager.rises; events = manager.events };
      server = server.events;
      cleaner = record { starts = cleaner.start; stays = cleaner.rises; events = cleaner.events };
      registry = record { starts = registry.start; stays = registry.rises; events = registry.events };
      managers_alone = manager.alone;
      servers_alone = server.alone;
      registry_alone = registry.alone;
    }
